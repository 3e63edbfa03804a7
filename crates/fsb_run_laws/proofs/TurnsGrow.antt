-- The turns of the snoop ends, with one moment more.
use Rattle.fsb_run_laws.proofs.Words
use Words.{◌≡◌, List, [], ◌∷◌, ◌++◌, Some, length, slice_get, sym, ap, ◌∙◌, append-nil, arith, option_and_then}
use Words.{option_map, slice_get-end, snooped_at, GrowsTo, moment_at_growth, number_of_turn, turns_in, Moment, past_of}
use Words.{Run, length-moments, moments-grow, turns-quiet, turns-snooped, listed}

pub turns-more : (moments : List Moment) (moment : Moment)
    → turns_in (moments ++ moment ∷ [])
    ≡ turns_in moments ++ listed (option_map (λ s. number_of_turn s.turn) moment.snooped)
unfolding listed
turns-more moments moment = grind (arith, turns-quiet, append-nil, turns-snooped)

-- the moment of the clock by which a run grows
moment-there : (r s : Run) → GrowsTo r s
    → slice_get (past_of s).moments (length r.trace) ≡ Some (moment_at_growth r s)
unfolding past_of
moment-there r s grows =
    ap (λ xs. slice_get xs (length r.trace)) (moments-grow r s grows)
    ∙ ap (slice_get ((past_of r).moments ++ moment_at_growth r s ∷ [])) (sym (length-moments r (length r.trace)))
    ∙ slice_get-end (past_of r).moments (moment_at_growth r s)

pub turns-grow : (r s : Run) → GrowsTo r s → turns_in (past_of s).moments
    ≡ turns_in (past_of r).moments
    ++ listed (option_map (λ end. number_of_turn end.turn) (snooped_at (past_of s) (length r.trace)))
unfolding snooped_at
turns-grow r s grows =
    ap turns_in (moments-grow r s grows) ∙ turns-more (past_of r).moments (moment_at_growth r s)
    ∙ ap (λ o. turns_in (past_of r).moments
    ++ listed (option_map (λ end. number_of_turn end.turn) (option_and_then (λ moment. moment.snooped) o)))
    (sym (moment-there r s grows))
