-- The audit before the first sample.
use Rattle.std.proofs.Common.{ℕ, ◌≡◌, false, None, [], length, refl, sym, ap, ◌∙◌, arith}
use Rattle.fsb_count.specs.Clocks.{count_where, first_where, last_where}
use Rattle.fsb_signal.specs.declared.marks.Marks.{Marks}
use Rattle.fsb_trace.specs.At.{line_back}
use Rattle.fsb_trace.specs.Verdict.{verdict}
use Rattle.fsb_laws.proofs.Interface.{response_count-empty}
use Rattle.fsb_rules.specs.Checker.{Stands as CheckerStands}
use Rattle.fsb_audit.specs.declared.audit.Audit.{Audit}
use Rattle.fsb_audit.specs.MovedChunks.{moved_count}
use Rattle.fsb_audit.specs.Fouls.{finding_of, latest_move}
use Rattle.fsb_audit.specs.AuditRegisters.{data_in}
use Rattle.fsb_audit.specs.Audit.{Stands, comes_after, first_back, latest_data}
use Rattle.fsb_audit.proofs.Findings.{nothing, stands_following}

-- what the code makes
pub record IsNew (a : Audit) (m : Marks) : Type 0 where
  pub checker : CheckerStands a.checker m []
  pub found : a.found ≡ None
  pub clock : a.clock ≡ 0
  pub first : a.first ≡ None
  pub asked : length a.asked ≡ 256
  pub from_memory : a.from_memory ≡ false
  pub count : a.count ≡ 0
  pub moved : a.moved.entries ≡ []

no_verdict : (m : Marks) → verdict m [] ≡ None
unfolding verdict first_where
no_verdict m = refl

-- nothing is found in no sample
pub nothing_yet : (m : Marks) → finding_of m [] ≡ None
nothing_yet m = nothing m [] (no_verdict m) (λ c l. absurd (omega arith))

no_words : first_back [] ≡ None
unfolding first_back line_back
no_words = refl

none_told : comes_after [] 0 ≡ false
unfolding comes_after
none_told = refl

none_moved : moved_count [] ≡ 0
unfolding moved_count count_where
none_moved = refl

no_data : (chunk : ℕ) → latest_data [] chunk ≡ None
unfolding latest_data latest_move last_where
no_data chunk = refl

pub new_stands : (a : Audit) (m : Marks) → IsNew a m → Stands a m []
new_stands a m n = stands_following m a [] n.found (record {
  checker = n.checker;
  sound = no_verdict m;
  clean = λ c l. absurd (omega arith);
  clock = n.clock;
  first = n.first ∙ sym no_words;
  asked = record { size = n.asked; kept = λ q r l t e. absurd (omega arith) };
  answering = record { answers = λ q l t r. absurd (omega arith) };
  from_memory = n.from_memory ∙ sym none_told ∙ ap (comes_after []) (sym response_count-empty);
  count = n.count ∙ sym none_moved;
  moved = λ chunk. ap (λ xs. data_in xs chunk) n.moved ∙ sym (no_data chunk);
})
