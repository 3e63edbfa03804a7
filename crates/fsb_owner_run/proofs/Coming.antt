-- Bytes that are under way to an agent were granted to it, and it awaits the end.
use Rattle.std.proofs.Common.{ℕ, zero, suc, ◌+◌, ◌<◌, ◌≡◌, ◌==◌, Bool, true, false, ◌&&◌, ◌||◌, not, length}
use Rattle.std.proofs.Common.{List, [], ◌∷◌, ◌++◌, Some, None, refl, sym, ap, subst, ◌∙◌, arith, inl, inr, ◌⊎◌, if◌then◌else◌}
use Rattle.std.specs.Option.{option_and_then}
use Rattle.std.proofs.lemmas.Bool.{and_from, and_parts, both_ways, cases_lt, eq-eqb, false_from_ne_true}
use Rattle.std.proofs.lemmas.Bool.{not-true, or_left, or_right}
use Rattle.fsb_count.specs.Options.{is_at, is_before, is_some_and}
use Rattle.fsb_count.proofs.Interface.{any_where-found, is_at-some, is_before-from, is_before-parts}
use Rattle.fsb_encode.specs.declared.request.Kind.{Kind}
use Rattle.fsb_encode.specs.declared.request.Request.{Request}
use Rattle.fsb_hazard.specs.declared.choice.Turn.{Turn}
use Rattle.fsb_line.specs.declared.link.Link.{Link}
use Rattle.fsb_line.specs.declared.purpose.Purpose.{Purpose}
use Rattle.fsb_line.specs.Links.{is_linked}
use Rattle.fsb_line.specs.States.{gets_line}
use Rattle.fsb_signal.specs.declared.lines.Lines.{Lines}
use Rattle.fsb_signal.specs.declared.lines.TheConstants.Lines.{DEFER, HITM}
use Rattle.fsb_signal.specs.Samples.{line_at}
use Rattle.fsb_trace.specs.At.{Trace, request_at}
use Rattle.fsb_trace.specs.Outcome.{outcome_by_kind}
use Rattle.fsb_trace.specs.Requests.{is_reply, is_write_back, is_write_back_kind, live_clock_of, live_count, live_request_of}
use Rattle.fsb_trace.specs.Response.{end_of}
use Rattle.fsb_trace.specs.Snoop.{line_at_snoop_end, snoop_end_of}
use Rattle.fsb_timely.specs.Past.{Grant, Past, SnoopEnd}
use Rattle.fsb_timely.specs.Grants.{grant_at, is_end_at, is_ended, is_granted, snooped_at}
use Rattle.fsb_timely.specs.Moments.{is_got, is_upgraded, makes_grant}
use Rattle.fsb_timely.specs.Runs.{Run, past_of, run_to}
use Rattle.fsb_timely.specs.Snoops.{is_keep}
use Rattle.fsb_timely.specs.Timely.{Timely}
use Rattle.fsb_timely.proofs.Interface.{is_ended-more}
use Rattle.fsb_lawful.proofs.Interface.{run_to-agrees, some-and, turned-at}
use Rattle.fsb_coherent.specs.Awaits as awaits
use Rattle.fsb_coherent.specs.Awaits.{Awaited, awaited_by, awaited_by_grant}
use Rattle.fsb_coherent.specs.Relation.{chain_below, links_left}
use Rattle.fsb_coherent.specs.Settled.{outcome_by_turn, outcome_under}
use Rattle.fsb_tied.proofs.Interface.{IsSnooped, at-there, awaits-grant, ended-number, link_of, links_at}
use Rattle.fsb_tied.proofs.Interface.{outcome-shown}
use Rattle.fsb_tied.proofs.SnoopTold.{line-whole}
use Rattle.fsb_tied.proofs.WholeOrder.{one-begins}
use Rattle.fsb_run_laws.specs.Reaches.{Reaches}
use Rattle.fsb_owners.specs.Shown.{agent_at, asks, brings_bytes, is_coming, is_coming_by, is_turned, names}
use Rattle.fsb_owners.specs.Shown.{origin_clock_of, purpose_at}
use Rattle.fsb_trace.proofs.Interface.{snoop_end_of-stays}
use Rattle.fsb_owner_laws.proofs.AgreeEnders.{ender_from, for_line-from, origin_parts, snooped_from}
use Rattle.fsb_owner_laws.proofs.AgreeWords as words
use Rattle.fsb_owner_laws.proofs.Emptied.{Ender, ender, ender_four}
use Rattle.fsb_owner_run.proofs.Begun.{purpose-there}
use Rattle.fsb_owner_run.proofs.Replied.{replied-end}
use Rattle.fsb_owner_run.proofs.Snooped.{IsAskedEnd, asked-end, the-asker, the-orderly}

-- DEFER# is at a snoop end exactly where its turn is not to be kept
pub defer-shown : (r : Run) (n i : ℕ) (s : SnoopEnd) → Timely r → IsSnooped r n i s
    → line_at DEFER r.trace n ≡ not (is_keep s.turn)
defer-shown r n i s h k =
    let u = (run_to r n).trace in
    let agree = run_to-agrees r n k.within in
    let reached = snoop_end_of-stays (n + 1) r.trace u i n agree (omega arith) k.tied.reached in
    let turned = turned-at r n i n h k.within reached in
    let there = turned.there in
    let here = k.tied.there in
    let same : turned.end ≡ s = cc in
    line-whole DEFER r n k.within ∙ turned.defers ∙ ap (λ (x : SnoopEnd). not (is_keep x.turn)) same

pub line-at-end : (line : Lines) (w : Trace) (j n : ℕ) → snoop_end_of w j ≡ Some n
    → line_at_snoop_end line w j ≡ line_at line w n
unfolding line_at_snoop_end is_some_and
line-at-end line w j n e = rw e refl

-- whether the request is turned away
pub turned-shown : (r : Run) (line n : ℕ) (e : Ender) → Reaches r (n + 1) → (k : IsAskedEnd r line n e)
    → is_turned r.trace e.0 ≡ (not (is_keep k.end.turn) && not (line_at HITM r.trace n))
unfolding is_turned
turned-shown r line n e h k =
    let defer = line-at-end DEFER r.trace e.0 n k.snooped.tied.reached ∙ defer-shown r n e.0 k.end h.timely k.snooped in
    let hitm = line-at-end HITM r.trace e.0 n k.snooped.tied.reached in
    λ i. defer i && not (hitm i)

-- the outcome of its request
pub outcome-at : (r : Run) (line n : ℕ) (e : Ender) → (k : IsAskedEnd r line n e)
    → k.end.outcome ≡ outcome_under (line_at HITM r.trace n) k.end.turn (Some k.claimed.request)
outcome-at r line n e k = outcome-shown r n e.0 k.end k.claimed.request k.snooped k.claimed.decoded

brings-grant : (kind : Kind) (purpose : Purpose) (turn : Turn) (hitm : Bool) (request : Request) → request.kind ≡ kind
    → awaits.purpose_of kind ≡ Some purpose
    → ((hitm && not (is_write_back_kind kind)) || (not (not (is_keep turn) && not hitm) && gets_line purpose)) ≡ true
    → makes_grant kind (outcome_under hitm turn (Some request)) ≡ true
unfolding awaits.purpose_of is_write_back_kind is_keep makes_grant is_got outcome_under outcome_by_turn outcome_by_kind
brings-grant kind purpose turn hitm request h1 h2 h3 = grind arith

-- a grant that kind and outcome make is the agent's
pub asked-grant : (r : Run) (line n : ℕ) (e : Ender) (k : IsAskedEnd r line n e)
    → makes_grant k.claimed.request.kind k.end.outcome ≡ true
    → (grant : Grant) × (k.end.grant ≡ Some grant) × (grant.agent ≡ e.1.0) × (grant.line ≡ line)
asked-grant r line n e k makes =
    let fits = k.settled.fits in
    let made = subst (λ kind. makes_grant kind k.end.outcome ≡ true) (sym k.same_kind) makes in
    let grant : Grant = record {
      first = k.end.first;
      agent = fits.agent;
      line = line;
      owns = fits.owns;
      shared = fits.shared;
    } in (
      grant,
      fits.granted
          ∙ ap (λ b. if b then Some grant else None) (or_left (makes_grant fits.kind k.end.outcome)
          (is_upgraded k.end.outcome && fits.won) made),
      k.asker,
      refl,
    )

-- bytes of the line are under way to the agent at m, by the snoop end at a clock below m, which granted the line to it
pub record IsComing (r : Run) (line a m : ℕ) : Type 0 where
  pub clock : ℕ
  pub below : clock < m
  pub end : SnoopEnd
  pub there : snooped_at (past_of r) clock ≡ Some end
  pub grant : Grant
  pub grants : end.grant ≡ Some grant
  pub agent : grant.agent ≡ a
  pub names : grant.line ≡ line
  pub unended : is_ended (past_of r) m end.first ≡ false

unended-by : (r : Run) (j q m : ℕ) → Reaches r m → live_clock_of r.trace j ≡ Some q
    → is_before (end_of r.trace j) m ≡ false → is_ended (past_of r) m q ≡ false
unfolding is_ended
unended-by r j q m h clock late =
    let long = h.long in
    false_from_ne_true _ (λ e.
    let x = any_where-found (λ t. is_end_at (past_of r) t q) m e in
    let below : x.0 < m = x.1 in
    let ends = ended-number r x.0 q h.timely (omega arith) x.2 in
    let same = one-begins r.trace ends.0 j q ends.1.first clock in
    let end = subst (λ i. end_of r.trace i ≡ Some x.0) same ends.1.end in
    both_ways (is_before (end_of r.trace j) m) late (is_before-from (end_of r.trace j) x.0 m end below))

write-back-of : (w : Trace) (j q : ℕ) (request : Request) → live_clock_of w j ≡ Some q → request_at w q ≡ Some request
    → is_write_back (live_request_of w j) ≡ is_write_back_kind request.kind
unfolding is_write_back live_request_of is_some_and
write-back-of w j q request e f = rw (e, f) refl

gets-of : (w : Trace) (j q : ℕ) (kind : Purpose) → origin_clock_of w j ≡ Some q → purpose_at w q ≡ Some kind
    → is_some_and (option_and_then (purpose_at w) (origin_clock_of w j)) gets_line ≡ gets_line kind
unfolding is_some_and
gets-of w j q kind e f = rw (e, f) refl

three-ways : (reply a b : Bool) → reply ≡ false → (reply || a || b) ≡ true → (a || b) ≡ true
three-ways false a b h e = e
three-ways true a b h e = absurd (let no : ⊥ = cc in no)

-- what brings bytes was granted
brought-grant : (r : Run) (line n : ℕ) (e : Ender) → Reaches r (n + 1) → (k : IsAskedEnd r line n e) → (q : ℕ)
    → origin_clock_of r.trace e.0 ≡ Some q → purpose_at r.trace q ≡ Some e.1.1 → brings_bytes r.trace e.0 ≡ true
    → makes_grant k.claimed.request.kind k.end.outcome ≡ true
unfolding brings_bytes
brought-grant r line n e h k q origin purpose brings =
    let w = r.trace in
    let kind = k.claimed.request.kind in
    let hitm = line-at-end HITM w e.0 n k.snooped.tied.reached in
    let write = write-back-of w e.0 k.end.first k.claimed.request k.snooped.tied.first k.claimed.decoded in
    let turned = turned-shown r line n e h k in
    let gets = gets-of w e.0 q e.1.1 origin purpose in
    let plain = three-ways (is_reply (live_request_of w e.0)) _ _ k.plain brings in
    let shown = sym (λ i. (hitm i && not (write i)) || (not (turned i) && gets i)) ∙ plain in
    ap (makes_grant kind) (outcome-at r line n e k)
    ∙ brings-grant kind e.1.1 k.end.turn (line_at HITM w n) k.claimed.request refl k.kind shown

coming-from : (r : Run) (line a m t : ℕ) (e : Ender) → Reaches r m → t < m → ender r.trace line t ≡ Some e → e.1.0 ≡ a
    → brings_bytes r.trace e.0 ≡ true → is_before (end_of r.trace e.0) m ≡ false → IsComing r line a m
coming-from r line a m t e h below shown agent brings late =
    let long = h.long in
    let w = r.trace in
    let reaches : Reaches r (t + 1) = record { timely = h.timely; bounds = h.bounds; long = omega arith } in
    let k = the-asker r line t e reaches shown in
    let four = ender_four w line t e shown in
    elim k.way [
      | inl way ↦
          let x = asked-end r line t e reaches k way four in
          let g = asked-grant r line t e x
          (brought-grant r line t e reaches x k.clock k.origin_clock k.kind brings) in
          record {
            clock = t;
            below = below;
            end = x.end;
            there = x.snooped.tied.there;
            grant = g.0;
            grants = g.1;
            agent = g.2 ∙ agent;
            names = g.3;
            unended = unended-by r e.0 x.end.first m h x.snooped.tied.first late;
          }
      | inr way ↦
          let x = replied-end r line t e reaches k way four in
          record {
            clock = t;
            below = below;
            end = x.end;
            there = x.snooped.tied.there;
            grant = x.grant;
            grants = x.grants;
            agent = x.agent ∙ agent;
            names = x.names;
            unended = unended-by r e.0 x.end.first m h x.snooped.tied.first late;
          }
    ]

pub coming-parts : (r : Run) (line a m : ℕ) → Reaches r m → is_coming r.trace line a m ≡ true → IsComing r line a m
unfolding is_coming is_coming_by asks
coming-parts r line a m h e =
    let long = h.long in
    let w = r.trace in
    let f = any_where-found (is_coming_by w line a m) (live_count w) e in
    let j : ℕ = f.0 in
    let p = and_parts _ (not (is_before (end_of w j) m)) f.2 in
    let s = and_parts _ (is_before (snoop_end_of w j) m) p.0 in
    let b = and_parts _ (brings_bytes w j) s.0 in
    let q = some-and (origin_clock_of w j) (asks w line a) b.0 in
    let asked = and_parts (names w line q.0) (is_at (agent_at w q.0) a) q.2 in
    let agent = is_at-some (agent_at w q.0) a asked.1 in
    let t = is_before-parts (snoop_end_of w j) m s.1 in
    let below = t.2 in
    let reaches : Reaches r (t.0 + 1) = record { timely = h.timely; bounds = h.bounds; long = omega arith } in
    let before = (origin_parts (length w) w w j t.0 q.0 (words.itself w (the-orderly r t.0 reaches)) t.1 (omega arith) q.1).0 in
    let decoded : Reaches r (q.0 + 2) = record { timely = h.timely; bounds = h.bounds; long = omega arith } in
    let purpose = purpose-there r line a q.0 decoded asked.0 agent in
    let ends : Ender = (j, (a, purpose.0)) in
    let shown : ender w line t.0 ≡ Some ends = ender_from w line t.0 ends (record {
      number = snooped_from w t.0 j t.1;
      for_line = for_line-from w line j q.0 q.1 ∙ asked.0;
      clock = q.0;
      begins = q.1;
      agent = agent;
      kind = purpose.1;
    }) in
    coming-from r line a m t.0 ends h t.2 shown refl b.1 (not-true _ p.1)

-- a link of the agent that is left
linked-append : (a : ℕ) (xs ys : List Link) → is_linked a (xs ++ ys) ≡ (is_linked a xs || is_linked a ys)
linked-append a [] ys = refl
linked-append a (x ∷ xs) ys = by-first (x.agent == a) (is_linked a xs) (is_linked a (xs ++ ys)) (linked-append a xs ys)
  where
    by-first : (b c d : Bool) → d ≡ (c || is_linked a ys) → (b || d) ≡ ((b || c) || is_linked a ys)
    by-first b c d h1 = grind arith

one-linked : (a : ℕ) (link : Link) → link.agent ≡ a → is_linked a (link ∷ []) ≡ true
one-linked a link e = grind arith

linked-from : (p : Past) (a line n t b : ℕ) (link : Link) → links_at p line n t ≡ link ∷ [] → link.agent ≡ a → t < b
    → is_linked a (links_left p line n b) ≡ true
unfolding links_left
linked-from p a line n t zero link here agent l = absurd (omega arith)
linked-from p a line n t (suc b) link here agent l =
    elim (cases_lt t b) [
      | inl less ↦
          linked-append a (links_left p line n b) (links_at p line n b)
          ∙ or_left _ _ (linked-from p a line n t b link here agent less)
      | inr more ↦
          let same : t ≡ b = omega arith in
          linked-append a (links_left p line n b) (links_at p line n b)
          ∙ or_right (is_linked a (links_left p line n b)) (is_linked a (links_at p line n b))
          (ap (is_linked a) (subst (λ c. links_at p line n c ≡ link ∷ []) same here) ∙ one-linked a link agent)
    ]

-- an agent to which bytes are under way awaits their end
pub coming-linked : (r : Run) (line a m n : ℕ) (k : IsComing r line a m) → k.clock < n
    → is_ended (past_of r) n k.end.first ≡ false → is_linked a (chain_below (past_of r) line n) ≡ true
unfolding chain_below awaited_by_grant
coming-linked r line a m n k l unended =
    let p = past_of r in
    let awaited = awaited_by_grant k.end.outcome k.grant in
    let links = at-there p line n k.clock k.end awaited k.there unended (awaits-grant k.end k.grant k.grants) k.names in
    linked-from p a line n k.clock n (link_of p line k.clock k.end awaited) links k.agent l

pub granted-at : (p : Past) (a line t : ℕ) (s : SnoopEnd) (grant : Grant) → snooped_at p t ≡ Some s
    → s.grant ≡ Some grant → grant.agent ≡ a → grant.line ≡ line → is_granted p a line t ≡ true
unfolding is_granted grant_at is_some_and
granted-at p a line t s grant there e agent names =
    rw (there, e) (and_from _ _ (eq-eqb grant.agent a agent) (eq-eqb grant.line line names))

-- nothing is under way to an agent that awaits nothing
pub not-coming : (r : Run) (line a m : ℕ) → Reaches r m → is_linked a (chain_below (past_of r) line m) ≡ false
    → is_coming r.trace line a m ≡ false
not-coming r line a m h none =
    false_from_ne_true _ (λ t.
    let k = coming-parts r line a m h t in
    both_ways (is_linked a (chain_below (past_of r) line m)) none (coming-linked r line a m m k k.below k.unended))

before-end : (p : Past) (n q : ℕ) → is_ended p (n + 1) q ≡ false → is_ended p n q ≡ false
before-end p n q e =
    false_from_ne_true _ (λ t. both_ways (is_ended p (n + 1) q) e
    (is_ended-more p n q ∙ or_left (is_ended p n q) (is_end_at p n q) t))

-- what is under way one clock on was granted at the clock, or was under way before
pub coming-next : (r : Run) (line a n : ℕ) → Reaches r (n + 1) → is_coming r.trace line a (n + 1) ≡ true
    → (is_granted (past_of r) a line n ≡ true) ⊎ (is_linked a (chain_below (past_of r) line n) ≡ true)
coming-next r line a n h e =
    let p = past_of r in
    let k = coming-parts r line a (n + 1) h e in
    let below = k.below in
    elim (cases_lt k.clock n) [
      | inl early ↦ inr (coming-linked r line a (n + 1) n k early (before-end p n k.end.first k.unended))
      | inr late ↦
          let same : k.clock ≡ n = omega arith in
          inl (subst (λ t. is_granted p a line t ≡ true) same
          (granted-at p a line k.clock k.end k.grant k.there k.grants k.agent k.names))
    ]
