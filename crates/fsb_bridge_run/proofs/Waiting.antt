-- What it says that a live request waits for its reply, and that a reply to it is under way.
use Rattle.fsb_bridge_run.proofs.Words
use Words.{ℕ, ◌+◌, ◌<◌, ◌≤◌, ◌≡◌, Bool, true, false, not, ◌&&◌, ◌||◌, List, Some, nat_le, ◌∙◌, ◌⊎◌, Option, arith, inl}
use Words.{inr, option_and_then, and_from, and_parts, le-leb, is_before, any_where-at, any_where-found, is_before-from}
use Words.{is_before-parts, ADS, line_at, Trace, request_at, answers, is_answered, has_ended, is_dropped, is_in_flight}
use Words.{is_reply_to, reply_number_of, is_settled_deferred, response_clock_of, have_same_id, is_live, is_reply}
use Words.{live_clock_of, live_count, live_request_of, snoop_end_of, live_below_count, snoop_end_of-clock, waits}

-- a reply to live request i has its snoop end below c
abbrev pub is_replied : Trace → ℕ → ℕ → Bool
is_replied w c i = is_before (option_and_then (snoop_end_of w) (reply_number_of w i)) c

-- what is not before a clock is not before an earlier one
pub earlier : (o : Option ℕ) (q c : ℕ) → q ≤ c → is_before o c ≡ false → is_before o q ≡ false
earlier o q c l none = grind (arith, is_before-parts, is_before-from)

-- live request i waits for its reply at c: its snoop end, its first clock, that it is Deferred, and that no reply to it
-- has its own snoop end
pub record IsWaiting (w : Trace) (turns : List ℕ) (c i : ℕ) : Type 0 where
  pub snoop : ℕ
  pub is_snoop : snoop_end_of w i ≡ Some snoop
  pub below : snoop < c
  pub clock : ℕ
  pub is_clock : live_clock_of w i ≡ Some clock
  pub above : clock + 4 ≤ snoop
  pub deferred : is_settled_deferred w turns i ≡ true
  pub unreplied : is_replied w c i ≡ false

pub waits-parts : (w : Trace) (turns : List ℕ) (c i : ℕ) → waits w turns c i ≡ true → IsWaiting w turns c i
unfolding waits
waits-parts w turns c i e =
    let replied = is_replied w c i in
    let a = and_parts (is_settled_deferred w turns i && is_before (snoop_end_of w i) c) (not replied) e in
    let b = and_parts (is_settled_deferred w turns i) (is_before (snoop_end_of w i) c) a.0 in
    let s = is_before-parts (snoop_end_of w i) c b.1 in
    let k = snoop_end_of-clock w i s.0 s.1 in
    grind arith

pub waits-from : (w : Trace) (turns : List ℕ) (c i t : ℕ) → is_settled_deferred w turns i ≡ true
    → snoop_end_of w i ≡ Some t → t < c
    → is_replied w c i ≡ false → waits w turns c i ≡ true
unfolding waits
waits-from w turns c i t deferred e l none = grind (arith, is_before-from)

pub waits-live : (w : Trace) (turns : List ℕ) (c i : ℕ) → waits w turns c i ≡ true → i < live_count w
waits-live w turns c i e = let k = waits-parts w turns c i e in live_below_count w i k.clock k.is_clock

-- the request that begins at q is a reply to live request i, and is live or was not dropped below c
unfoldable pub under_way : Trace → ℕ → ℕ → ℕ → Bool
under_way w c i q = is_reply_to w i q && (is_live w q || nat_le c (q + 3))

answers-form : (w : Trace) (c i q : ℕ) → q < c → answers w c i q ≡ under_way w c i q
unfolding answers under_way is_in_flight is_dropped has_ended is_live is_reply_to
answers-form w c i q l = grind arith

-- a reply to live request i that begins at q
pub record IsReplyTo (w : Trace) (i q : ℕ) : Type 0 where
  pub asks : line_at ADS w q ≡ true
  pub replies : is_reply (request_at w q) ≡ true
  pub same_id : have_same_id (request_at w q) (live_request_of w i) ≡ true
  pub response : ℕ
  pub is_response : response_clock_of w i ≡ Some response
  pub after : response < q

pub reply-parts : (w : Trace) (i q : ℕ) → is_reply_to w i q ≡ true → IsReplyTo w i q
unfolding is_reply_to
reply-parts w i q e = grind (arith, is_before-parts)

pub reply-from : (w : Trace) (i q : ℕ) → IsReplyTo w i q → is_reply_to w i q ≡ true
unfolding is_reply_to
reply-from w i q k = grind (arith, is_before-from)

-- and is under way at c: it is live, or c lies no further behind than its address error
pub record IsUnderWay (w : Trace) (c i q : ℕ) : Type 0 where
  pub below : q < c
  pub reply : is_reply_to w i q ≡ true
  pub kept : (is_live w q ≡ true) ⊎ (c ≤ q + 3)

pub either : (a b : Bool) → (a || b) ≡ true → (a ≡ true) ⊎ (b ≡ true)
either a b h1 = grind arith

pub either-from : (a b : Bool) → (a ≡ true) ⊎ (b ≡ true) → (a || b) ≡ true
either-from a b h1 = grind arith

pub answered-parts : (w : Trace) (c i : ℕ) → is_answered w c i ≡ true → (q : ℕ) × IsUnderWay w c i q
unfolding is_answered under_way
answered-parts w c i e = grind (arith, any_where-found, answers-form)

pub answered-from : (w : Trace) (c i q : ℕ) → IsUnderWay w c i q → is_answered w c i ≡ true
unfolding is_answered under_way
answered-from w c i q k =
    any_where-at (answers w c i) c q k.below
    (answers-form w c i q k.below ∙ and_from _ _ k.reply (either-from (is_live w q) (nat_le c (q + 3))
    (elim k.kept [ inl t ↦ inl t | inr l ↦ inr (le-leb c (q + 3) l) ])))
