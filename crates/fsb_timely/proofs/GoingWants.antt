-- What an agent wants, and whether it is held back, rests on the past below the clock, and on the entries of its
-- own hits.
use Rattle.std.proofs.Common.{ℕ, zero, suc, ◌+◌, ◌%◌, ◌≤◌, ◌<◌, ◌≡◌, true, false, not, ◌&&◌, ◌||◌, nat_eq, nat_le, []}
use Rattle.std.proofs.Common.{List, length, Option, None, refl, ap, ◌∙◌, arith}
use Rattle.std.specs.List.{list_any, filter, filter_map, find, range_with_len}
use Rattle.std.specs.Option.{option_map}
use Rattle.fsb_encode.specs.declared.request.Request.{Request}
use Rattle.fsb_timely.specs.Past.{Owing, Past}
use Rattle.fsb_timely.specs.Growth.{GoesOn}
use Rattle.fsb_timely.specs.Grants.{set_of, is_rival, line_granted_at, lines_granted}
use Rattle.fsb_timely.specs.Scripts.{Need, is_idling, window, needs_from}
use Rattle.fsb_timely.specs.Hits.{is_dirty}
use Rattle.fsb_timely.specs.Wants.{outstanding_at, unsnooped_at, owed, is_asked_for, is_same_set, is_set_taken}
use Rattle.fsb_timely.specs.Wants.{is_missing, least_of, victim_of, may_upgrade, kind_needed, want_for, want_of}
use Rattle.fsb_timely.specs.Wants.{is_open_to_other, is_held_back}
use Rattle.fsb_timely.proofs.GoingOn.{Alike, going-alike, grant-same, rival-same, holds_line-same}
use Rattle.fsb_timely.proofs.GoingScripts.{is_idling-alike, window-alike, is_met-alike}
use Rattle.fsb_timely.proofs.GoingDirty.{HitIsDone, is_dirty-alike}

outstanding-same : (n : ℕ) (p q : Past) (c : ℕ) → Alike n p q → c ≤ n → outstanding_at p c ≡ outstanding_at q c
unfolding outstanding_at
outstanding-same n p q c h1 h2 = grind arith

-- what an agent owes
pub owed-same : (n : ℕ) (p q : Past) (a c : ℕ) → Alike n p q → c ≤ n → owed p a c ≡ owed q a c
unfolding owed
owed-same n p q a c h l = ap (filter (λ owing. nat_eq owing.claim.agent a)) (outstanding-same n p q c h l)

-- what is said of the numbers of a stretch
range-same : (f g : ℕ → Option ℕ) (s len : ℕ) → ((t : ℕ) → t < s + len → f t ≡ g t)
    → filter_map f (range_with_len s len) ≡ filter_map g (range_with_len s len)
range-same f g s zero same = refl
range-same f g s (suc len) same = grind (arith, range-same f g (s + 1) len)

lines-same : (n : ℕ) (p q : Past) (a c : ℕ) → Alike n p q → c ≤ n → lines_granted p a c ≡ lines_granted q a c
unfolding lines_granted line_granted_at
lines-same n p q a c h l = grind (arith, range-same, grant-same)

set-same : (n : ℕ) (p q : Past) (line other : ℕ) → Alike n p q → is_same_set p line other ≡ is_same_set q line other
unfolding is_same_set set_of
set-same n p q line other h = let plan = h.same_plan in λ i. nat_eq (line % (plan i).cache) (other % (plan i).cache)

taken-same : (n : ℕ) (p q : Past) (owings : List Owing) (lines : List ℕ) (line : ℕ) → Alike n p q
    → is_set_taken p owings lines line ≡ is_set_taken q owings lines line
unfolding is_set_taken
taken-same n p q owings lines line h =
    let same : (other : ℕ) → is_same_set p line other ≡ is_same_set q line other =
    λ other. set-same n p q line other h in
    λ i. list_any (λ owing. same owing.claim.line i) owings || list_any (λ other. same other i) lines

missing-same : (n : ℕ) (p q : Past) (a c : ℕ) (owings : List Owing) (need : Need) → GoesOn n p q → c ≤ n
    → is_missing p a c owings need ≡ is_missing q a c owings need
unfolding is_missing
missing-same n p q a c owings need h l =
    let met = is_met-alike n p q a c need h l in
    let taken = taken-same n p q owings need.earlier need.line (going-alike n p q h) in
    λ i. not (met i) && not (is_asked_for owings need.line) && not (taken i)

victim-same : (n : ℕ) (p q : Past) (a c line : ℕ) (h : GoesOn n p q) → c ≤ n → HitIsDone p a c h.entries
    → victim_of p a c line ≡ victim_of q a c line
unfolding victim_of
victim-same n p q a c line h l quiet =
    let lines = lines-same n p q a c (going-alike n p q h) l in
    let rival : (other : ℕ) → is_rival p other line ≡ is_rival q other line =
    λ other. rival-same n p q other line (going-alike n p q h) in
    let dirty : (other : ℕ) → is_dirty p a other c ≡ is_dirty q a other c =
    λ other. is_dirty-alike n p q a other c h l quiet in
    λ i. least_of (filter (λ other. rival other i && dirty other i) (lines i))

kind-same : (n : ℕ) (p q : Past) (a c : ℕ) (need : Need) → GoesOn n p q → c ≤ n
    → kind_needed p a c need ≡ kind_needed q a c need
unfolding kind_needed may_upgrade
kind-same n p q a c need h l = grind (arith, holds_line-same)

want_for-same : (n : ℕ) (p q : Past) (a c : ℕ) (owings : List Owing) (need : Need) (h : GoesOn n p q) → c ≤ n
    → HitIsDone p a c h.entries → want_for p a c owings need ≡ want_for q a c owings need
unfolding want_for
want_for-same n p q a c owings need h l quiet =
    let victim = victim-same n p q a c need.line h l quiet in
    let kind = kind-same n p q a c need h l in
    grind arith

-- what an agent with these outstanding requests wants
abbrev want_with : Past → ℕ → ℕ → List Owing → Option Request
want_with p a c owings =
    elim (is_idling p a c || nat_le p.plan.ahead (length owings)) [
      | true ↦ None
      | false ↦ option_map (want_for p a c owings) (find (is_missing p a c owings) (needs_from [] (window p a c)))
    ]

want_with-same : (n : ℕ) (p q : Past) (a c : ℕ) (owings : List Owing) (h : GoesOn n p q) → c ≤ n
    → HitIsDone p a c h.entries → want_with p a c owings ≡ want_with q a c owings
want_with-same n p q a c owings h l quiet =
    let plan = h.same_plan in
    let idling = is_idling-alike n p q a c h l in
    let items = window-alike n p q a c h l in
    let missing : (need : Need) → is_missing p a c owings need ≡ is_missing q a c owings need =
    λ need. missing-same n p q a c owings need h l in
    let want : (need : Need) → want_for p a c owings need ≡ want_for q a c owings need =
    λ need. want_for-same n p q a c owings need h l quiet in
    λ i. elim (idling i || nat_le (plan i).ahead (length owings)) [
      | true ↦ None
      | false ↦ option_map (λ need. want need i) (find (λ need. missing need i) (needs_from [] (items i)))
    ]

pub want_of-alike : (n : ℕ) (p q : Past) (a c : ℕ) (h : GoesOn n p q) → c ≤ n → HitIsDone p a c h.entries
    → want_of p a c ≡ want_of q a c
unfolding want_of
want_of-alike n p q a c h l quiet =
    want_with-same n p q a c (owed p a c) h l quiet ∙ ap (want_with q a c) (owed-same n p q a c (going-alike n p q h) l)

pub is_held_back-alike : (n : ℕ) (p q : Past) (a c : ℕ) (h : GoesOn n p q) → c ≤ n → HitIsDone p a c h.entries
    → is_held_back p a c ≡ is_held_back q a c
unfolding is_held_back is_open_to_other unsnooped_at
is_held_back-alike n p q a c h l quiet =
    let want = want_of-alike n p q a c h l quiet in
    grind arith
