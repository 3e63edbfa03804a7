-- What a trace with one sample more has at its clocks.
use Rattle.std.proofs.Common.{ℕ, ◌+◌, ◌<◌, ◌≡◌, [], ◌∷◌, ◌++◌, length, refl, sym, arith}
use Rattle.std.proofs.lemmas.List.{length-append}
use Rattle.fsb_count.proofs.Interface.{slice_get-end}
use Rattle.fsb_signal.specs.declared.lines.Lines.{Lines}
use Rattle.fsb_signal.specs.declared.lines.TheConstants.Lines.{HIT, HITM}
use Rattle.fsb_signal.specs.declared.sample.Sample.{Sample}
use Rattle.fsb_signal.specs.Samples.{has_line, line_at, response_of}
use Rattle.fsb_signal.proofs.Interface.{slice_get-before}
use Rattle.fsb_trace.specs.At.{Trace, response_code_at, stalls_at}
use Rattle.fsb_trace.proofs.Interface.{line_at-agree}
use Rattle.fsb_laws.specs.OneMore.{OneMore, stalls}

-- a sample put behind a trace
pub one_more : (h : Trace) (x : Sample) → OneMore h x (h ++ x ∷ [])
one_more h x =
    let size : length (h ++ x ∷ []) ≡ length h + 1 = length-append h (x ∷ []) in
    record {
      agree = record { left = omega arith; right = omega arith; same = λ c l. sym (slice_get-before h (x ∷ []) c l) };
      size = size;
      last = slice_get-end h x;
    }

-- at the old clocks nothing changes
pub line_at-old : (line : Lines) (h : Trace) (x : Sample) (v : Trace) (c : ℕ) → OneMore h x v → c < length h
    → line_at line v c ≡ line_at line h c
line_at-old line h x v c m l = sym (line_at-agree line (length h) h v c m.agree l)

-- at the new clock the trace has the sample
pub line_at-new : (line : Lines) (h : Trace) (x : Sample) (v : Trace) → OneMore h x v
    → line_at line v (length h) ≡ has_line x line
unfolding line_at
line_at-new line h x v m = rw m.last refl

pub response_code_at-new : (h : Trace) (x : Sample) (v : Trace) → OneMore h x v
    → response_code_at v (length h) ≡ response_of x
unfolding response_code_at
response_code_at-new h x v m = rw m.last refl

pub stalls_at-new : (h : Trace) (x : Sample) (v : Trace) → OneMore h x v → stalls_at v (length h) ≡ stalls x
unfolding stalls_at stalls
stalls_at-new h x v m = rw (line_at-new HIT h x v m, line_at-new HITM h x v m) refl
