-- Orderly traces that agree so far show the same of the snoop ends in them.
use Rattle.std.proofs.Common.{ℕ, ◌+◌, ◌<◌, ◌≤◌, ◌≡◌, Bool, true, false, length, Option, Some, None}
use Rattle.std.proofs.Common.{refl, sym, ap, ◌∙◌, arith, if◌then◌else◌}
use Rattle.std.specs.Option.{option_and_then, option_map}
use Rattle.std.proofs.lemmas.Bool.{and_parts, both_ways, false_from_ne_true}
use Rattle.fsb_count.specs.Clocks.{first_where}
use Rattle.fsb_count.specs.Options.{is_at, is_some_and}
use Rattle.fsb_count.proofs.Interface.{first_where-at, first_where-found, is_at-from, is_at-some}
use Rattle.fsb_trace.specs.At.{Trace}
use Rattle.fsb_trace.specs.Requests.{is_reply, live_clock_of, live_count, live_number_of, live_request_of}
use Rattle.fsb_trace.specs.Snoop.{snoop_end_of}
use Rattle.fsb_trace.specs.Outcome.{is_deferred}
use Rattle.fsb_trace.specs.Flight.{reply_clock_of, reply_number_of}
use Rattle.fsb_trace.proofs.Interface.{live_below_count, live_clock_of-number, live_clock_of-stays, live_request_of-stays}
use Rattle.fsb_trace.proofs.Interface.{snoop_end_of-clock, snoop_end_of-rises, snoop_end_of-stays}
use Rattle.fsb_laws.proofs.Interface.{live_of_reply}
use Rattle.fsb_owners.specs.Shown.{is_for_line, is_reply_of, names, origin_clock_of, origin_of, snooped_at}
use Rattle.fsb_owner_laws.proofs.AgreeWords.{Alike, IsAnsweredAt, agent_at-agree, answered_stays, live_number-agree}
use Rattle.fsb_owner_laws.proofs.AgreeWords.{names-agree, purpose_at-agree}
use Rattle.fsb_owner_laws.proofs.AgreeWords.{itself, put_off, reply_behind, reply_found, same_options, some_same, turned_round}
use Rattle.fsb_owner_laws.proofs.BrokenRules.{IsEnder, ender_parts}
use Rattle.fsb_owner_laws.proofs.Emptied.{Ender, ender}

-- the request whose snoop ends at b
pub snooped_found : (w : Trace) (b j : ℕ) → snooped_at w b ≡ Some j → snoop_end_of w j ≡ Some b
unfolding snooped_at
snooped_found w b j e =
    is_at-some (snoop_end_of w j) b (first_where-found (λ j. is_at (snoop_end_of w j) b) (live_count w) j e).1

not_sooner : (w : Trace) (i j b : ℕ) → i < j → snoop_end_of w j ≡ Some b → is_at (snoop_end_of w i) b ≡ true → ⊥
not_sooner w i j b l e t =
    let h = snoop_end_of-rises w i j b l e in
    let same : h.0 ≡ b = some_same h.0 b (sym h.1 ∙ is_at-some (snoop_end_of w i) b t) in
    omega (arith, same, h.2)

pub snooped_from : (w : Trace) (b j : ℕ) → snoop_end_of w j ≡ Some b → snooped_at w b ≡ Some j
unfolding snooped_at
snooped_from w b j e =
    let h = snoop_end_of-clock w j b e in
    first_where-at (λ j. is_at (snoop_end_of w j) b) (live_count w) j (live_below_count w j h.clock h.is_clock)
    (is_at-from (snoop_end_of w j) b e)
    (λ i l. false_from_ne_true (is_at (snoop_end_of w i) b) (not_sooner w i j b l e))

number_of_some : (w : Trace) (i j : ℕ) (o : Option ℕ) → reply_clock_of w i ≡ o → is_at (option_map (live_number_of w) o) j ≡ true
    → (p : ℕ) × (reply_clock_of w i ≡ Some p) × (live_number_of w p ≡ j)
number_of_some w i j None e t = absurd (let no = is_at-some (option_map (live_number_of w) None) j t in let bad : ⊥ = cc in bad)
number_of_some w i j (Some p) e t =
    (p, e, some_same (live_number_of w p) j (is_at-some (option_map (live_number_of w) (Some p)) j t))

-- the request that live request j answers
pub reply_of_parts : (w : Trace) (j i : ℕ) → is_reply_of w j i ≡ true
    → (p : ℕ) × (IsAnsweredAt w i p) × (live_number_of w p ≡ j) × (live_clock_of w j ≡ Some p)
unfolding is_reply_of reply_number_of
reply_of_parts w j i t =
    let a = and_parts (is_deferred w i) (is_at (option_map (live_number_of w) (reply_clock_of w i)) j) t in
    let m = number_of_some w i j (reply_clock_of w i) refl a.1 in
    let live = live_of_reply w i m.0 m.1 in (
      m.0,
      record { deferred = a.0; reply = m.1 },
      m.2,
      ap (live_clock_of w) (sym m.2) ∙ live_clock_of-number w m.0 live.1 live.0,
    )

reply_of_from : (w : Trace) (j i p : ℕ) → IsAnsweredAt w i p → live_number_of w p ≡ j → is_reply_of w j i ≡ true
unfolding is_reply_of reply_number_of
reply_of_from w j i p h e =
    rw (h.deferred, h.reply) (is_at-from (Some (live_number_of w p)) j (ap (λ n. Some n) e))

-- a request that is answered by one whose snoop end is seen
reply_of_stays : (n : ℕ) (w v : Trace) (j i s : ℕ) → Alike n w v → snoop_end_of w j ≡ Some s → s < n → is_reply_of w j i ≡ true
    → is_reply_of v j i ≡ true
reply_of_stays n w v j i s k e l t =
    let p = reply_of_parts w j i t in
    let h = snoop_end_of-clock w j s e in
    let same : p.0 ≡ h.clock = some_same p.0 h.clock (sym p.3 ∙ h.is_clock) in
    let below : p.0 + 3 < n = omega (arith, same, h.above, l) in
    reply_of_from v j i p.0 (answered_stays n w v i p.0 k below p.1) (sym (live_number-agree n w v p.0 k.agree below) ∙ p.2)

origin_found : (n : ℕ) (w v : Trace) (j i s : ℕ) → Alike n w v → snoop_end_of w j ≡ Some s → s < n
    → first_where (is_reply_of w j) (live_count w) ≡ Some i → first_where (is_reply_of v j) (live_count v) ≡ Some i
origin_found n w v j i s k e l h =
    let found = first_where-found (is_reply_of w j) (live_count w) i h in
    let there = reply_of_stays n w v j i s k e l found.1 in
    let back = turned_round n w v k in
    let ev = snoop_end_of-stays n w v j s k.agree l e in
    let p = reply_of_parts v j i there in
    let o = put_off v i k.right p.1.deferred in
    let c = snoop_end_of-clock v i o.snoop o.is_snoop in
    first_where-at (is_reply_of v j) (live_count v) i (live_below_count v i c.clock c.is_clock) there
    (λ m b. false_from_ne_true (is_reply_of v j m)
    (λ t. both_ways (is_reply_of w j m) (found.2 m b) (reply_of_stays n v w j m s back ev l t)))

-- the request that counts has its first clock four clocks before the snoop end
pub record IsOrigin (w : Trace) (j s q : ℕ) : Type 0 where
  pub origin : ℕ
  pub is_origin : origin_of w j ≡ Some origin
  pub begins : live_clock_of w origin ≡ Some q
  pub before : q + 4 ≤ s

pub some_number : (w : Trace) (q : ℕ) (o : Option ℕ) → option_and_then (live_clock_of w) o ≡ Some q
    → (i : ℕ) × (o ≡ Some i) × (live_clock_of w i ≡ Some q)
some_number w q None e = absurd (let no : ⊥ = cc in no)
some_number w q (Some i) e = (i, refl, e)

clock_before : (w : Trace) (i q s : ℕ) → live_clock_of w i ≡ Some q → snoop_end_of w i ≡ Some s → q + 4 ≤ s
clock_before w i q s e f =
    let h = snoop_end_of-clock w i s f in
    let same : q ≡ h.clock = some_same q h.clock (sym e ∙ h.is_clock) in
    omega (arith, same, h.above)

answered_before : (w : Trace) (j i s q : ℕ) → Alike (length w) w w → snoop_end_of w j ≡ Some s → is_reply_of w j i ≡ true
    → live_clock_of w i ≡ Some q → q + 4 ≤ s
answered_before w j i s q k e t f =
    let p = reply_of_parts w j i t in
    let o = put_off w i k.left p.1.deferred in
    let b = reply_behind w i p.0 (reply_found w i p.0 p.1.reply) in
    let same : b.0 ≡ o.response = some_same b.0 o.response (sym b.1 ∙ o.is_response) in
    let m = clock_before w i q o.snoop f o.is_snoop in
    let d = clock_before w j p.0 s p.3 e in
    omega (arith, same, b.2, o.before, m, d)

origin_before : (n : ℕ) (w v : Trace) (j i s q : ℕ) (b : Bool) → Alike n w v → snoop_end_of w j ≡ Some s → s < n
    → is_reply (live_request_of w j) ≡ b
    → (if b then first_where (is_reply_of w j) (live_count w) else Some j) ≡ Some i → live_clock_of w i ≡ Some q → q + 4 ≤ s
origin_before n w v j i s q true k e l r h f =
    answered_before w j i s q (itself w k.left) e (first_where-found (is_reply_of w j) (live_count w) i h).1 f
origin_before n w v j i s q false k e l r h f =
    let same : j ≡ i = some_same j i h in
    clock_before w j q s (ap (live_clock_of w) same ∙ f) e

origin_by : (n : ℕ) (w v : Trace) (j i s : ℕ) (b : Bool) → Alike n w v → snoop_end_of w j ≡ Some s → s < n
    → (if b then first_where (is_reply_of w j) (live_count w) else Some j) ≡ Some i
    → (if b then first_where (is_reply_of v j) (live_count v) else Some j) ≡ Some i
origin_by n w v j i s true k e l h = origin_found n w v j i s k e l h
origin_by n w v j i s false k e l h = h

-- the request that counts at a snoop end that is seen
pub origin-stays : (n : ℕ) (w v : Trace) (j i s : ℕ) → Alike n w v → snoop_end_of w j ≡ Some s → s < n
    → origin_of w j ≡ Some i → origin_of v j ≡ Some i
unfolding origin_of
origin-stays n w v j i s k e l h =
    rw (← (live_request_of-stays n w v j s k.agree l e))
    (origin_by n w v j i s (is_reply (live_request_of w j)) k e l h)

pub origin_parts : (n : ℕ) (w v : Trace) (j s q : ℕ) → Alike n w v → snoop_end_of w j ≡ Some s → s < n
    → origin_clock_of w j ≡ Some q → (q + 4 ≤ s) × (origin_clock_of v j ≡ Some q)
unfolding origin_clock_of origin_of
origin_parts n w v j s q k e l h =
    let p = some_number w q (if is_reply (live_request_of w j) then first_where (is_reply_of w j) (live_count w) else Some j) h in
    let before = origin_before n w v j p.0 s q (is_reply (live_request_of w j)) k e l refl p.1 p.2 in
    let there = origin_by n w v j p.0 s (is_reply (live_request_of w j)) k e l p.1 in (
      before,
      rw (← (live_request_of-stays n w v j s k.agree l e), there) (live_clock_of-stays n w v p.0 q k.agree (omega (arith, before, l)) p.2),
    )

-- what is seen of the request whose snoop ends at b
pub ender_from : (v : Trace) (line b : ℕ) (e : Ender) → IsEnder v line b e → ender v line b ≡ Some e
unfolding ender
ender_from v line b e h = rw (h.number, h.for_line, h.begins, h.agent, h.kind) refl

pub for_line-from : (v : Trace) (line j q : ℕ) → origin_clock_of v j ≡ Some q → is_for_line v line j ≡ names v line q
unfolding is_for_line is_some_and
for_line-from v line j q e = rw e refl

ender_stays : (n : ℕ) (w v : Trace) (line b : ℕ) (e : Ender) → Alike n w v → b < n → ender w line b ≡ Some e
    → ender v line b ≡ Some e
ender_stays n w v line b e k l h =
    let p = ender_parts w line b e h in
    let s = snooped_found w b e.0 p.number in
    let o = origin_parts n w v e.0 b p.clock k s l p.begins in
    ender_from v line b e (record {
      number = snooped_from v b e.0 (snoop_end_of-stays n w v e.0 b k.agree l s);
      for_line = for_line-from v line e.0 p.clock o.1 ∙ sym (names-agree n w v line p.clock k.agree (omega (arith, o.0, l)))
          ∙ sym (for_line-from w line e.0 p.clock p.begins) ∙ p.for_line;
      clock = p.clock;
      begins = o.1;
      agent = sym (agent_at-agree n w v p.clock k.agree (omega (arith, o.0, l))) ∙ p.agent;
      kind = sym (purpose_at-agree n w v p.clock k.agree (omega (arith, o.0, l))) ∙ p.kind;
    })

pub ender-agree : (n : ℕ) (w v : Trace) (line b : ℕ) → Alike n w v → b < n → ender w line b ≡ ender v line b
ender-agree n w v line b k l =
    same_options (ender w line b) (ender v line b) (λ e h. ender_stays n w v line b e k l h)
    (λ e h. ender_stays n v w line b e (turned_round n w v k) l h)

pub ender_snoop : (w : Trace) (line b : ℕ) (e : Ender) → ender w line b ≡ Some e → snoop_end_of w e.0 ≡ Some b
ender_snoop w line b e h = snooped_found w b e.0 (ender_parts w line b e h).number
