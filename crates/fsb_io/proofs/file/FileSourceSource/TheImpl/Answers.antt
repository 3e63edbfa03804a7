-- What the trait promises of a source that tells what it holds is not said here.
use Rattle.std.proofs.Common.{refl}
use Rattle.fsb_io.proofs.file.FileSourceSource.TheImpl.Goals as goal

pub begin-tells : goal.begin-tells
begin-tells g c = record {
  begun = λ told. cc told;
  left_stays = λ told. cc told;
  name_stays = λ told. cc told;
  holds_stays = λ _. refl;
  cause = c.ensures.cause;
}

pub read-tells : goal.read-tells
read-tells g c = record {
  within = c.ensures.within;
  bytes = λ told. cc told;
  end = λ told. cc told;
  name_stays = λ _. refl;
  holds_stays = λ _. refl;
  cause = c.ensures.cause;
}
