-- The outstanding requests, one clock further.
use Rattle.std.proofs.Common.{ℕ, ◌+◌, ◌≡◌, ◌<◌, Bool, not, ◌&&◌, ◌||◌, arith}
use Rattle.std.proofs.lemmas.Bool.Decides.{nat_tests}
use Rattle.fsb_count.proofs.Interface.{is_before-more}
use Rattle.fsb_trace.specs.At.{Trace}
use Rattle.fsb_trace.specs.Flight.{is_dropped, is_finished, is_outstanding}
use Rattle.fsb_timely.specs.Growth.{is_last_clock}

regrouped : (a x y u v : Bool) → (a && (not x && not y) && (not u && not v)) ≡ ((a && not x && not u) && not (y || v))
regrouped a x y u v = grind arith

-- a request that began before c stays outstanding, unless c is its last clock as such
pub is_outstanding-more : (w : Trace) (c q : ℕ) → q < c
    → is_outstanding w (c + 1) q ≡ (is_outstanding w c q && not (is_last_clock w c q))
unfolding is_outstanding is_last_clock is_dropped is_finished
is_outstanding-more w c q l = grind (arith, nat_tests, is_before-more)
