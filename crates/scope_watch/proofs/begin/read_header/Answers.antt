use Rattle.std.proofs.Common.{subst}
use Rattle.scope_watch.specs.Heading.{IsHeaded}
use Rattle.scope_watch.proofs.Texts.{HeaderLaws, headed}
use Rattle.scope_watch.proofs.begin.read_header.Goals as goal

pub returns-in-Ok-clause-read : goal.returns-in-Ok-clause-read
returns-in-Ok-clause-read g c = λ tells.
    let laws : HeaderLaws = record {
      so_far = c.texts_end_as_the_readers_say.ensures.fault_in_header;
      whole = c.texts_end_as_the_readers_say.ensures.fault_of_header;
      stays = c.faults_stay.ensures;
    } in
    let begun = c.in-Ok.ensures.begun tells in
    subst (λ x. IsHeaded c.read_left.result x (g.S.Source.left c.read_left.new.source)) begun.all_left
    (headed laws c.read_left.result _ _ (c.read_left.ensures.read tells))
