-- Rule 16: the reasons, and what is kept of the last response.
use Rattle.std.proofs.Common.{ℕ, zero, suc, ◌+◌, ◌<◌, ◌≤◌, ◌≡◌, Bool, true, false, cond, not, ◌&&◌, ◌||◌, nat_lt, Option, Some, None}
use Rattle.std.proofs.Common.{[], ◌∷◌, ◌++◌, length, refl, sym, ap, subst, ◌∙◌, arith, inl, inr}
use Rattle.std.proofs.lemmas.Bool.{and_left, and_right, cases_Bool, le-leb, le-ltb, lt-ltb}
use Rattle.fsb_count.specs.Clocks.{count_where, from_clock, last_where}
use Rattle.fsb_count.specs.Options.{is_some_and}
use Rattle.fsb_count.proofs.Interface.{count_where-more, last_where-failed, last_where-passed}
use Rattle.fsb_signal.specs.declared.lines.TheConstants.Lines.{DBSY, DRDY}
use Rattle.fsb_signal.specs.declared.marks.Marks.{Marks}
use Rattle.fsb_signal.specs.declared.sample.Sample.{Sample}
use Rattle.fsb_signal.specs.Samples.{has_line, line_at, response_of}
use Rattle.fsb_trace.specs.At.{Trace, responds_at, response_code_at}
use Rattle.fsb_trace.specs.Requests.{live_clock_of, live_count}
use Rattle.fsb_trace.specs.Outcome.{does_move, live_response_of, moves_data, outcome_of, response_clock_of, told_by, told_with}
use Rattle.fsb_trace.specs.Rules.{breaks, is_data_wrong, is_transferring, next_response, phase_rules}
use Rattle.fsb_trace.proofs.Interface.{live_below_count, responds_at-agree}
use Rattle.fsb_laws.specs.OneMore.{responds}
use Rattle.fsb_laws.specs.Progress.{response_count}
use Rattle.fsb_laws.proofs.Interface.{line_at-new, next_response-new, one_more, responds_at-new, response_clock_of-new, response_code_at-new}
use Rattle.fsb_reasons.specs.declared.reason.Concerned.{Concerned}
use Rattle.fsb_reasons.specs.declared.reason.Reason.{Reason}
use Rattle.fsb_reasons.specs.declared.reason.Reason.TheVariants.{BusyForNone, BusyMissing, DataForNone}
use Rattle.fsb_reasons.specs.RuleOf.{rule_of}
use Rattle.fsb_why.specs.Explains.{Explains, IsReason}
use Rattle.fsb_why_queue.specs.declared.data.Transfer.{Transfer}
use Rattle.fsb_why_queue.specs.declared.next.Next.{Next}
use Rattle.fsb_why_queue.specs.Data.{HasNoData, IsTransfer, IsEnd, SaysMover}
use Rattle.fsb_why_queue.specs.Next.{IsNext}

-- the last response, one sample on
last_same : (p q : ℕ → Bool) (n : ℕ) → ((c : ℕ) → c < n → p c ≡ q c) → last_where p n ≡ last_where q n
unfolding last_where
last_same p q zero same = refl
last_same p q (suc n) same =
    elim (cases_Bool (p n)) [
      | inl t ↦ last_where-passed p n t ∙ sym (last_where-passed q n (sym (same n (omega arith)) ∙ t))
      | inr f ↦
          last_where-failed p n f ∙ last_same p q n (λ c l. same c (omega (arith, l)))
          ∙ sym (last_where-failed q n (sym (same n (omega arith)) ∙ f))
    ]

last_cases : (h : Trace) (x : Sample) (n : ℕ) (before : Option ℕ) (b : Bool) → responds x ≡ b → n ≡ length h
    → before ≡ last_where (responds_at h) (length h)
    → cond b (Some n) before ≡ last_where (responds_at (h ++ x ∷ [])) (suc (length h))
last_cases h x n before true t e is_last =
    ap (λ k. Some k) e
    ∙ sym (last_where-passed (responds_at (h ++ x ∷ [])) (length h) (responds_at-new h x (h ++ x ∷ []) (one_more h x) ∙ t))
last_cases h x n before false f e is_last =
    is_last
    ∙ last_same (responds_at h) (responds_at (h ++ x ∷ [])) (length h)
    (λ c l. responds_at-agree (length h) h (h ++ x ∷ []) c (one_more h x).agree l)
    ∙ sym (last_where-failed (responds_at (h ++ x ∷ [])) (length h) (responds_at-new h x (h ++ x ∷ []) (one_more h x) ∙ f))

pub last-now : (h : Trace) (x : Sample) (n : ℕ) (before : Option ℕ) → n ≡ length h
    → before ≡ last_where (responds_at h) (length h)
    → cond (responds x) (Some n) before ≡ last_where (responds_at (h ++ x ∷ [])) (n + 1)
last-now h x n before e is_last =
    let at : suc (length h) ≡ n + 1 = omega (arith, e) in
    last_cases h x n before (responds x) refl e is_last ∙ ap (last_where (responds_at (h ++ x ∷ []))) at

pub last-fed : (h : Trace) (x : Sample) (n : ℕ) (before : Option ℕ) → n ≡ length h
    → before ≡ last_where (responds_at h) (length h)
    → cond (responds x) (Some n) before ≡ last_where (responds_at (h ++ x ∷ [])) (length (h ++ x ∷ []))
last-fed h x n before e is_last =
    let size = (one_more h x).size in
    let at : n + 1 ≡ length (h ++ x ∷ []) = omega (arith, e, size) in
    last-now h x n before e is_last ∙ ap (last_where (responds_at (h ++ x ∷ []))) at

pub last-none : None ≡ last_where (responds_at []) (length {A = Sample} [])
unfolding last_where
last-none = refl

pub end-is : (h : Trace) (x : Sample) (n : ℕ) (before last : Option ℕ) → n ≡ length h
    → before ≡ last_where (responds_at h) (length h) → last ≡ cond (responds x) (Some n) before
    → IsEnd (h ++ x ∷ []) n x last
end-is h x n before last e is_last as_told = record {
  drdy = ap (line_at DRDY (h ++ x ∷ [])) e ∙ line_at-new DRDY h x (h ++ x ∷ []) (one_more h x);
  dbsy = ap (line_at DBSY (h ++ x ∷ [])) e ∙ line_at-new DBSY h x (h ++ x ∷ []) (one_more h x);
  answered = as_told ∙ last-now h x n before e is_last;
}

-- what the next request's response tells
outcome_there : (v : Trace) (i r code : ℕ) → live_response_of v i ≡ Some r → response_code_at v r ≡ code
    → moves_data v i ≡ does_move (told_by v i code)
unfolding moves_data outcome_of is_some_and
outcome_there v i r code e f = rw (e, f) refl

response_live : (v : Trace) (i : ℕ) → i < live_count v → live_response_of v i ≡ response_clock_of v i
unfolding live_response_of
response_live v i l = rw (lt-ltb i (live_count v) l) refl

response_none : (v : Trace) (i : ℕ) → live_count v ≤ i → moves_data v i ≡ false
unfolding moves_data outcome_of live_response_of is_some_and
response_none v i l = rw (le-ltb i (live_count v) l) refl

told_is : (v : Trace) (i code : ℕ) (next : Next) (c : ℕ) → IsNext next v c → next.request.number ≡ i
    → told_by v i code ≡ told_with next.handed next.decoded code
unfolding told_by
told_is v i code next c g e = rw (sym e, g.handed, g.decoded) refl

answered_cases : (h : Trace) (x : Sample) (request : Concerned) (b : Bool) → responds x ≡ true
    → moves_data (h ++ x ∷ []) (response_count h) ≡ b → request.number ≡ response_count h
    → live_clock_of (h ++ x ∷ []) request.number ≡ Some request.clock
    → SaysMover h x (h ++ x ∷ []) (cond b (Some request) None)
answered_cases h x request true t moves number clock =
    record { responds = t; moves = moves; number = number; clock = clock }
answered_cases h x request false t moves number clock = and_right (responds x) _ moves

pub answered-some : (h : Trace) (x : Sample) (c : ℕ) (next : Next) (o : Option Concerned) → c ≡ length h
    → responds x ≡ true → IsNext next (h ++ x ∷ []) c
    → o ≡ cond (does_move (told_with next.handed next.decoded (response_of x))) (Some next.request) None
    → SaysMover h x (h ++ x ∷ []) o
answered-some h x c next o e t g is_told =
    let v : Trace = h ++ x ∷ [] in
    let number : next.request.number ≡ response_count h =
    g.number ∙ ap (next_response v) e ∙ next_response-new h x v (one_more h x) in
    let within = live_below_count v next.request.number next.request.clock g.clock in
    let clock : live_response_of v (response_count h) ≡ Some (length h) =
    response_live v (response_count h) (omega (arith, within, number)) ∙ response_clock_of-new h x v (one_more h x) t in
    let moves = outcome_there v (response_count h) (length h) (response_of x) clock
    (response_code_at-new h x v (one_more h x)) in
    let told = told_is v (response_count h) (response_of x) next c g number in
    subst (SaysMover h x v) (sym is_told)
    (answered_cases h x next.request _ t (moves ∙ ap does_move told) number g.clock)

pub answered-none : (h : Trace) (x : Sample) (c : ℕ) → c ≡ length h
    → live_count (h ++ x ∷ []) ≤ next_response (h ++ x ∷ []) c → SaysMover h x (h ++ x ∷ []) None
answered-none h x c e l =
    let number = ap (next_response (h ++ x ∷ [])) e ∙ next_response-new h x (h ++ x ∷ []) (one_more h x) in
    and_right (responds x) (moves_data (h ++ x ∷ []) (response_count h))
    (response_none (h ++ x ∷ []) (response_count h) (omega (arith, l, number)))

pub answered-quiet : (h : Trace) (x : Sample) → responds x ≡ false → SaysMover h x (h ++ x ∷ []) None
answered-quiet h x f = and_left (responds x) (moves_data (h ++ x ∷ []) (response_count h)) f

-- the rule
rule_by : (drdy dbsy there after : Bool) → (drdy && not there) ≡ false → (not dbsy && after) ≡ false
    → (dbsy && not after) ≡ false → (((drdy && not there) || (not dbsy && after)) || (dbsy && not after)) ≡ false
rule_by drdy dbsy there after a b c = rw (a, b, c) refl

data_kept : (m : Marks) (v : Trace) (c : ℕ) (drdy dbsy there after : Bool) → line_at DRDY v c ≡ drdy
    → line_at DBSY v c ≡ dbsy → is_transferring v c ≡ there → is_transferring v (c + 1) ≡ after
    → (drdy && not there) ≡ false → (not dbsy && after) ≡ false → (dbsy && not after) ≡ false
    → breaks m v c 16 ≡ false
unfolding breaks phase_rules is_data_wrong
data_kept m v c drdy dbsy there after d e f g a b k = rw (d, e, f, g) (rule_by drdy dbsy there after a b k)

pub data-for-none : (m : Marks) (v : Trace) (c : ℕ) (x : Sample) (last : Option ℕ) → IsEnd v c x last → HasNoData v c
    → has_line x DRDY ≡ true → IsReason m v c 16 (DataForNone last)
unfolding rule_of
data-for-none m v c x last e n t = record { rule = refl; holds = (e.drdy ∙ t, n.there, e.answered) }

pub busy-for-none : (m : Marks) (v : Trace) (c : ℕ) (x : Sample) (last : Option ℕ) → IsEnd v c x last
    → is_transferring v (c + 1) ≡ false → has_line x DBSY ≡ true → IsReason m v c 16 (BusyForNone last)
unfolding rule_of
busy-for-none m v c x last e n t = record { rule = refl; holds = (e.dbsy ∙ t, n, e.answered) }

pub none-used : (m : Marks) (v : Trace) (c : ℕ) (x : Sample) (last : Option ℕ) → IsEnd v c x last → HasNoData v c
    → has_line x DRDY ≡ false → has_line x DBSY ≡ false → breaks m v c 16 ≡ false
none-used m v c x last e n f g =
    data_kept m v c false false false false (e.drdy ∙ f) (e.dbsy ∙ g) n.there n.after refl refl refl

fourth : (m : Marks) (v : Trace) (c : ℕ) (x : Sample) (last : Option ℕ) (coming : Transfer) → IsEnd v c x last
    → IsTransfer coming v c → is_transferring v (c + 1) ≡ nat_lt (coming.chunks + cond (has_line x DRDY) 1 0) 4
fourth m v c x last coming e g = g.after ∙ ap (λ b. nat_lt (coming.chunks + cond b 1 0) 4) e.drdy

chunks_now : (v : Trace) (c r : ℕ) → r ≤ c → count_where (from_clock r (line_at DRDY v)) (c + 1)
    ≡ count_where (from_clock r (line_at DRDY v)) c + cond (line_at DRDY v c) 1 0
unfolding from_clock
chunks_now v c r l =
    count_where-more (from_clock r (line_at DRDY v)) c
    ∙ ap (λ b. count_where (from_clock r (line_at DRDY v)) c + cond (b && line_at DRDY v c) 1 0) (le-leb r c l)

and_not : (b : Bool) → (b && not true) ≡ false
and_not true = refl
and_not false = refl

-- more chunks are to come
pub missing : (m : Marks) (v : Trace) (c n : ℕ) (x : Sample) (last : Option ℕ) (coming : Transfer) (o : Option Reason) (busy : Bool)
    → IsEnd v c x last → IsTransfer coming v c → n ≡ coming.chunks + cond (has_line x DRDY) 1 0 → n < 4
    → has_line x DBSY ≡ busy → o ≡ cond busy None (Some (BusyMissing coming.request coming.response n))
    → Explains m v c 16 o
unfolding rule_of
missing m v c n x last coming o true e g is_count few t is_told =
    let after : is_transferring v (c + 1) ≡ true =
    fourth m v c x last coming e g ∙ ap (λ k. nat_lt k 4) (sym is_count) ∙ lt-ltb n 4 few in
    subst (Explains m v c 16) (sym is_told)
    (data_kept m v c (has_line x DRDY) true true true e.drdy (e.dbsy ∙ t) g.there after (and_not (has_line x DRDY)) refl refl)
missing m v c n x last coming o false e g is_count few f is_told =
    let all : n ≡ count_where (from_clock coming.response (line_at DRDY v)) (c + 1) =
    is_count ∙ ap (λ b. coming.chunks + cond b 1 0) (sym e.drdy)
    ∙ ap (λ k. k + cond (line_at DRDY v c) 1 0) g.chunks ∙ sym (chunks_now v c coming.response g.reached) in
    subst (Explains m v c 16) (sym is_told)
    (record { rule = refl; holds = (e.dbsy ∙ f, g.clock, g.moves, g.response, all, few) })

-- or the last one came
pub over : (m : Marks) (v : Trace) (c n : ℕ) (x : Sample) (last : Option ℕ) (coming : Transfer) (o : Option Reason) (busy : Bool)
    → IsEnd v c x last → IsTransfer coming v c → n ≡ coming.chunks + cond (has_line x DRDY) 1 0 → 4 ≤ n
    → has_line x DBSY ≡ busy → o ≡ cond busy (Some (BusyForNone last)) None → Explains m v c 16 o
over m v c n x last coming o busy e g is_count many t is_told =
    let after : is_transferring v (c + 1) ≡ false =
    fourth m v c x last coming e g ∙ ap (λ k. nat_lt k 4) (sym is_count) ∙ le-ltb n 4 many in
    subst (Explains m v c 16) (sym is_told) (by_busy busy t after)
  where
    by_busy : (b : Bool) → has_line x DBSY ≡ b → is_transferring v (c + 1) ≡ false
        → Explains m v c 16 (cond b (Some (BusyForNone last)) None)
    by_busy true t after = busy-for-none m v c x last e after t
    by_busy false f after =
        data_kept m v c (has_line x DRDY) false true false e.drdy (e.dbsy ∙ f) g.there after (and_not (has_line x DRDY)) refl refl
