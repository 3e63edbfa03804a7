-- A sample with which nothing happens to the requests breaks none of the rules from 11 to 18.
use Rattle.std.proofs.Common.{ℕ, ◌+◌, ◌≡◌, true, false, Option, None, [], ◌∷◌, ◌++◌, length, is_some, refl, ap, ◌∙◌}
use Rattle.std.proofs.lemmas.Bool.{and_parts, and_left}
use Rattle.fsb_count.proofs.Interface.{is_none-none}
use Rattle.fsb_signal.specs.declared.lines.TheConstants.Lines.{DRDY}
use Rattle.fsb_signal.specs.declared.sample.Sample.{Sample}
use Rattle.fsb_signal.specs.Samples.{has_line}
use Rattle.fsb_trace.specs.At.{Trace}
use Rattle.fsb_trace.specs.Rules.{is_response_early, has_unknown_data, is_snoop_line_alone, is_snoop_result_unfit}
use Rattle.fsb_trace.specs.Rules.{is_code_wrong, is_target_ready_wrong, is_data_wrong, is_outstanding_wrong}
use Rattle.fsb_trace.specs.Rules.{responds_soundly, is_transferring}
use Rattle.fsb_laws.specs.Progress.{chunk_step, transfer_of}
use Rattle.fsb_laws.proofs.Interface.{one_more, transfer_of-kept}
use Rattle.fsb_rules.specs.declared.checker.Checker.{Checker}
use Rattle.fsb_rules.specs.declared.live.LiveRequest.{LiveRequest}
use Rattle.fsb_rules.specs.Still.{is_quiet}
use Rattle.fsb_rules.specs.LeastRule.{begins_well, least_past}
use Rattle.fsb_rules.specs.Checker.{Comes}
use Rattle.fsb_rules.proofs.Lines.{line_at-last}
use Rattle.fsb_rules.proofs.Samples.{responds-last}
use Rattle.fsb_rules.proofs.LeastRule.{at_now, busy_rules, in_time, moved_rules, none_wrong}
use Rattle.fsb_rules.proofs.QueueRules.{fits_silent, moving_after, rule_11, rule_13, rule_14, rule_15, rule_16}
use Rattle.fsb_rules.proofs.StillClocks.{stillness, silent}

pub quiet_later : {k : Checker} {n : ℕ} {x : Sample} {b : Option LiveRequest} {h : Trace} → Comes k n x b h
    → begins_well (h ++ x ∷ []) (length h) ≡ true → is_quiet h x b ≡ true
    → least_past 10 k.marks (h ++ x ∷ []) (length h) ≡ least_past 18 k.marks (h ++ x ∷ []) (length h)
unfolding is_quiet responds_soundly has_unknown_data chunk_step
quiet_later {k} {n = i} {x} {b} {h} c well q =
    let v : Trace = h ++ x ∷ [] in
    let n : ℕ = length h in
    let a = at_now c in
    let o = c.follows.orderly in
    let p = and_parts _ _ (and_parts _ _ q).1 in
    let s = stillness x p.1 in
    let quiet = silent x s in
    let none = is_none-none _ p.0 in
    let alone : is_snoop_line_alone v n ≡ false = rule_11 h x o ∙ (rw (s.hit, s.hitm, s.defer) refl) in
    let unfit : is_snoop_result_unfit v n ≡ false = fits_silent a x (rw (s.hit, s.hitm, s.defer) refl) in
    let early : is_response_early v n ≡ false = rule_13 h x o ∙ (rw quiet refl) in
    let t = in_time c well early in
    let sound : responds_soundly v n ≡ false = and_left _ _ (responds-last h x ∙ quiet) in
    let code : is_code_wrong v n ≡ false = rule_14 h x o early ∙ and_left _ _ sound in
    let target : is_target_ready_wrong v n ≡ false = rule_15 h x o early ∙ (rw (s.trdy, sound) refl) in
    let ended : transfer_of v ≡ None = transfer_of-kept h x v (one_more h x) c.follows.orderly quiet
    ∙ ap (chunk_step (has_line x DRDY)) none in
    let goes : is_transferring v (n + 1) ≡ false = moving_after h x o t.apart early ∙ ap (λ o. is_some o) ended in
    let moved : is_data_wrong v n ≡ false = rule_16 h x ∙ (rw (s.drdy, s.dbsy, goes) refl) in
    let unknown : has_unknown_data v n ≡ false = and_left _ _ (line_at-last DRDY h x ∙ s.drdy) in
    let begun : is_outstanding_wrong v n ≡ false = none_wrong c well (is_none-none _ (and_parts _ _ q).0) in
    busy_rules k.marks v n
    ∙ (rw (alone, unfit, early) (moved_rules k.marks v n ∙ (rw (code, target, moved, unknown, begun) refl)))
