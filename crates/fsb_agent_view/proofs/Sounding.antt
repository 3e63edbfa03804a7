-- A sound agent stays sound by what happens to it.
use Rattle.std.proofs.Common.{ℕ, ◌+◌, ◌≡◌, Bool, true, false, cond, not, Option, Some, None, List, [], ◌∷◌, length}
use Rattle.std.proofs.Common.{refl, sym, ◌∙◌, inl, inr, arith}
use Rattle.std.specs.List.{find, list_all}
use Rattle.std.proofs.lemmas.Bool.{cases_Bool}
use Rattle.fsb_linebuf.specs.Buffers.{is_push_for, without_first}
use Rattle.fsb_agent_view.specs.declared.want.OwnRequest.{OwnRequest}
use Rattle.fsb_agent_view.specs.AgentViews.{AgentView}
use Rattle.fsb_agent_view.specs.Arriving.{given_up, handed_on, may_give_up}
use Rattle.fsb_agent_view.specs.OwnRequests.{is_numbered, request_numbered}
use Rattle.fsb_agent_view.specs.Sound.{IsSound, are_requests_apart, granted_count, is_apart_from, is_sound_request}
use Rattle.fsb_agent_view.proofs.Parts.{both, both_left, both_right, length-without, list_all-without}
use Rattle.fsb_agent_view.proofs.Parts.{without_first-cons}

-- requests are apart when one of them has gone
pub apart-without : (sets : ℕ) (test : OwnRequest → Bool) (outs : List OwnRequest)
    → are_requests_apart sets outs ≡ true → are_requests_apart sets (without_first test outs) ≡ true
apart-without sets test [] apart = refl
apart-without sets test (out ∷ outs) apart =
    let others = both_right (list_all (is_apart_from sets out) outs) (are_requests_apart sets outs) apart in
    let first = both_left (list_all (is_apart_from sets out) outs) (are_requests_apart sets outs) apart in
    rw (without_first-cons test out outs)
    (elim (cases_Bool (test out)) [
      | inl on ↦ rw on others
      | inr off ↦ rw off
          (both (list_all (is_apart_from sets out) (without_first test outs))
          (are_requests_apart sets (without_first test outs))
          (list_all-without (is_apart_from sets out) test outs first) (apart-without sets test outs others))
    ])

-- as many are granted when one that was not has gone
pub granted-without : (test : OwnRequest → Bool) (outs : List OwnRequest) (out : OwnRequest)
    → find test outs ≡ Some out → granted_count (without_first test outs) + cond out.granted 1 0 ≡ granted_count outs
granted-without test [] out found = absurd (let h : ⊥ = cc in h)
granted-without test (o ∷ outs) out found =
    rw (without_first-cons test o outs)
    (elim (cases_Bool (test o)) [
      | inl on ↦
          let same : Some o ≡ Some out = rw on at found in
          let is : o ≡ out = cc in
          rw (on, is) (omega arith)
      | inr off ↦
          let rest : granted_count (without_first test outs) + cond out.granted 1 0 ≡ granted_count outs =
          granted-without test outs out (rw off at found) in
          rw off (omega (arith, rest))
    ])

-- bytes that were owed are handed on
pub sound_handed : (v : AgentView) (number : ℕ) → IsSound v → IsSound (handed_on v number)
sound_handed v number s = record {
  number = s.number;
  some_lines = s.some_lines;
  in_sets = s.in_sets;
  script = s.script;
  some_ahead = s.some_ahead;
  few_ahead = s.few_ahead;
  profile = s.profile;
  placed = s.placed;
  few_outs = s.few_outs;
  apart = s.apart;
  requests = s.requests;
  fills = s.fills;
  one_a_line = s.one_a_line;
  lent = s.lent;
  few_owed = omega (arith, length-without (is_push_for number) v.buffers.pushes, s.few_owed);
}

none_less : (granted : Bool) (n m : ℕ) → not granted ≡ true → n + cond granted 1 0 ≡ m → n ≡ m
none_less false n m e sum = omega (arith, sum)
none_less true n m e sum = absurd (let h : ⊥ = cc in h)

-- a request that was not granted is given up
pub sound_given_up : (v : AgentView) (number : ℕ) → IsSound v → may_give_up v number ≡ true
    → IsSound (given_up v number)
sound_given_up v number s may = go (request_numbered number v.outs) refl
  where
    go : (found : Option OwnRequest) → request_numbered number v.outs ≡ found → IsSound (given_up v number)
    go None e = absurd (let never : false ≡ true = rw e at may in (let h : ⊥ = cc in h))
    go (Some out) e =
        let open_one : not out.granted ≡ true = rw e at may in
        let count = granted-without (is_numbered number) v.outs out e in
        record {
          number = s.number;
          some_lines = s.some_lines;
          in_sets = s.in_sets;
          script = s.script;
          some_ahead = s.some_ahead;
          few_ahead = s.few_ahead;
          profile = s.profile;
          placed = s.placed;
          few_outs = omega (arith, length-without (is_numbered number) v.outs, s.few_outs);
          apart = apart-without (length v.lines) (is_numbered number) v.outs s.apart;
          requests = list_all-without (is_sound_request v.lines v.buffers.fills) (is_numbered number) v.outs s.requests;
          fills = s.fills ∙ sym (none_less out.granted _ _ open_one count);
          one_a_line = s.one_a_line;
          lent = s.lent;
          few_owed = s.few_owed;
        }
