-- Which request is being snooped, which one responds next and how far the data are that move, and what is kept of it.
use Rattle.std.specs.Prelude.{◌≡◌, ℕ, zero, suc, Bool, true, ◌&&◌, Option, None, [], ◌∷◌, ◌++◌, length, is_some}
use Rattle.fsb_count.specs.Clocks.{count_where}
use Rattle.fsb_signal.specs.declared.lines.TheConstants.Lines.{TRDY}
use Rattle.fsb_signal.specs.declared.sample.Sample.{Sample}
use Rattle.fsb_signal.specs.Samples.{has_line}
use Rattle.fsb_trace.specs.At.{Trace}
use Rattle.fsb_trace.specs.Requests.{live_count}
use Rattle.fsb_trace.specs.Snoop.{snoop_end_of}
use Rattle.fsb_trace.specs.Outcome.{moves_data}
use Rattle.fsb_trace.specs.Response.{ready_clock_of}
use Rattle.fsb_laws.specs.OneMore.{responds}
use Rattle.fsb_laws.specs.Orderly.{Orderly}
use Rattle.fsb_laws.specs.Progress.{response_count, transfer_of, ends_snoop_of, may_answer_next}
use Rattle.fsb_heads.specs.declared.heads.Heads.{Heads}
use Rattle.fsb_heads.specs.declared.heads.Next.{Next}

-- the value for the number before n, if there is one
unfoldable pub value_before : (ℕ → Option ℕ) → ℕ → Option ℕ
value_before f zero = None
value_before f (suc n) = f n

-- how many live requests have their snoop end: the number of the one that is snooped next. That of the next to respond
-- is response_count, and data on the way are of the one before that.
unfoldable pub snooped_count : Trace → ℕ
snooped_count h = count_where (λ i. is_some (snoop_end_of h i)) (live_count h)

-- the last snoop end
unfoldable pub last_snoop_end : Trace → Option ℕ
last_snoop_end h = value_before (snoop_end_of h) (snooped_count h)

-- the heads keep of the history the last snoop end, the ready clock of the next request to respond, and how many chunks
-- came of the data that are on the way
pub record Stands (heads : Heads) (h : Trace) : Type 0 where
  pub snooped : heads.snooped ≡ last_snoop_end h
  pub ready : heads.ready ≡ ready_clock_of h (response_count h)
  pub chunks : heads.chunks ≡ transfer_of h

-- the sample comes after an orderly history, and a response only where one may come; data move with it or do not
pub record MovesWith (x : Sample) (moves : Bool) (h : Trace) : Type 0 where
  pub orderly : Orderly h
  pub timely : responds x ≡ true → may_answer_next h ≡ true
  pub moves_is : responds x ≡ true → moves ≡ moves_data (h ++ x ∷ []) (response_count h)

-- and it is the sample of this clock, and this is what it brings
pub record BringsNext (clock : ℕ) (x : Sample) (next : Next) (h : Trace) : Type 0 where
  pub clock_is : clock ≡ length h
  pub snoops_is : next.snoops ≡ ends_snoop_of h (snooped_count h) x
  pub readies_is : next.readies ≡ (has_line x TRDY && may_answer_next h)
  pub moves_with : MovesWith x next.moves h
