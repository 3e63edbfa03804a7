use Rattle.std.proofs.Common.{◌≡◌, ◌+◌, ◌++◌, ℕ, Bool, true, false, if◌then◌else◌, List, [], length, ap, subst, ◌∙◌, append_assoc, append-nil}
use Rattle.vcd_grammar.specs.Tokens.{Token, tokens_from, open_run, open_run_from, ended_at}
use Rattle.vcd_way.specs.Ways.{ValueRules}
use Rattle.vcd_way.specs.Steps.{happenings_in}
use Rattle.vcd_way.specs.Events.{DumpEvent}
use Rattle.vcd_course.specs.Opening.{ended_in, told_in}
use Rattle.vcd_scan.specs.Wired.{Wiring, wired}
use Rattle.vcd_scan.specs.Standing.{tokens_after, last_tokens_after, known_after, open_after, told_after}
use Rattle.vcd_scan.specs.Ending.{ends_early_after, told_to_end}
use Rattle.vcd_scan.specs.Firsts.{IsFirstOf}
use Rattle.vcd_scan.proofs.Reading.{told-tokens, rest_tokens}
use Rattle.vcd_scan.proofs.laws.first_events_stay.Goals as goal

-- tokens behind others
first-told : (m : ValueRules) (w : Wiring) (ts us all : List Token) (ends : List DumpEvent) → all ≡ ts ++ us
    → IsFirstOf (told_after m w ts) (told_after m w all ++ ends)
first-told m w ts us all ends e =
    let more = told_in m (open_after m w ts) (happenings_in (wired m) (known_after m w ts) us) in
    record {
      rest = more ++ ends;
      whole = ap (λ x. told_after m w x ++ ends) e ∙ ap (λ x. x ++ ends) (told-tokens m w ts us)
          ∙ append_assoc (told_after m w ts) more ends;
    }

by-end : (m : ValueRules) (w : Wiring) (head fed more : List ℕ) (b : Bool)
    → IsFirstOf (told_after m w (tokens_after head fed)) (if b then told_after m w (tokens_after head (fed ++ more))
    else told_after m w (last_tokens_after head (fed ++ more)) ++ ended_in m (open_after m w (last_tokens_after head (fed ++ more))))
by-end m w head fed more true =
    let us = tokens_from (length head + length fed) (open_run_from (open_run head) fed) more in
    let all = tokens_after head (fed ++ more) in
    subst (λ x. IsFirstOf (told_after m w (tokens_after head fed)) x) (append-nil (told_after m w all))
    (first-told m w (tokens_after head fed) us all [] (rest_tokens head fed more))
by-end m w head fed more false =
    let us = tokens_from (length head + length fed) (open_run_from (open_run head) fed) more in
    let last = ended_at (length (head ++ (fed ++ more))) (open_run (head ++ (fed ++ more))) in
    let all = last_tokens_after head (fed ++ more) in
    first-told m w (tokens_after head fed) (us ++ last) all (ended_in m (open_after m w all))
    (ap (λ x. x ++ last) (rest_tokens head fed more) ∙ append_assoc (tokens_after head fed) us last)

pub returns : goal.returns
returns c = λ m w head fed more. by-end m w head fed more (ends_early_after m w head (fed ++ more))
