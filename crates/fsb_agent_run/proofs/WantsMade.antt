-- What a view wants is what the run says.
use Rattle.fsb_agent_run.proofs.Words
use Words.{ℕ, ◌+◌, ◌%◌, ◌≡◌, Bool, true, false, not, ◌&&◌, ◌||◌, List, [], ◌∷◌, map, length, Option, Some, None}
use Words.{is_some, nat_eq, nat_le, refl, sym, ap, ◌∙◌, arith, ◌==◌, find, list_any, option_map, option_map_or}
use Words.{and_parts, not-true, length-map, first_where, Request, Owing, Past, set_of, Need, is_idling, needs_from}
use Words.{next_number, window, window_at, is_dirty, is_hit, free_id, id_of, is_asked_for, is_id_used, is_missing}
use Words.{is_same_set, is_set_taken, kind_needed, may_upgrade, owed, request_of_kind, want_for, want_of, write_back_of}
use Words.{OwnRequest, Want, AgentView, is_idle_by, free_id_by, is_id_used_by, is_missing_by, is_silent_by, is_taken_by}
use Words.{kind_by, missing_by, want_by, want_for_by, HasLinesOf, HasRequestsOf, IsAgentOf, owing_by, IsViewAfterHit}
use Rattle.fsb_agent_run.proofs.Places.{idle-by, window-by}
use Rattle.fsb_agent_run.proofs.StatesTold.{met-by}
use Rattle.fsb_agent_run.proofs.VictimsNamed.{victim-by}

-- what is said of some request of the view is said of some request that the agent owes
any-mapped : (a : ℕ) (f : Owing → Bool) (outs : List OwnRequest)
    → list_any (λ out. f (owing_by a out)) outs ≡ list_any f (map (owing_by a) outs)
any-mapped a f [] = refl
any-mapped a f (out ∷ outs) = ap (λ b. f (owing_by a out) || b) (any-mapped a f outs)

any-owed : (p : Past) (a c : ℕ) (v : AgentView) (f : Owing → Bool) → HasRequestsOf p a c (owed p a c) v
    → list_any (λ out. f (owing_by a out)) v.outs ≡ list_any f (owed p a c)
any-owed p a c v f h = any-mapped a f v.outs ∙ ap (list_any f) h.owed

length-owed : (p : Past) (a c : ℕ) (v : AgentView) → HasRequestsOf p a c (owed p a c) v
    → length v.outs ≡ length (owed p a c)
length-owed p a c v h = sym (length-map v.outs (owing_by a)) ∙ ap length h.owed

-- the set of a line is taken
taken-by : (p : Past) (a c : ℕ) (v : AgentView) (lines : List ℕ) (line : ℕ) → IsAgentOf p a v
    → HasRequestsOf p a c (owed p a c) v
    → is_taken_by v lines line ≡ is_set_taken p (owed p a c) lines line
unfolding is_set_taken is_same_set set_of
taken-by p a c v lines line is h =
    let cache = is.cache in
    (λ i. list_any (λ out. (line % cache i) == (out.request.line % cache i)) v.outs
    || list_any (λ other. (line % cache i) == (other % cache i)) lines)
    ∙ ap (λ b. b || list_any (is_same_set p line) lines)
    (any-owed p a c v (λ owing. is_same_set p line owing.claim.line) h)

-- a line may be asked for
missing-of : (p : Past) (a c : ℕ) (dirty : ℕ → Bool) (v : AgentView) (need : Need) → IsAgentOf p a v
    → HasLinesOf p a c c dirty v → HasRequestsOf p a c (owed p a c) v
    → is_missing_by v need ≡ is_missing p a c (owed p a c) need
unfolding is_missing is_asked_for
missing-of p a c dirty v need is lines h =
    let met = met-by p a c c dirty v need lines in
    let asked = any-owed p a c v (λ owing. nat_eq owing.claim.line need.line) h in
    let taken = taken-by p a c v need.earlier need.line is h in
    λ i. not (met i) && not (asked i) && not (taken i)

-- the ID
free-id : (p : Past) (a c : ℕ) (v : AgentView) → IsAgentOf p a v → HasRequestsOf p a c (owed p a c) v
    → free_id_by v ≡ free_id a (owed p a c)
unfolding free_id is_id_used
free-id p a c v is h =
    let used : (did : ℕ)
    → is_id_used_by v did ≡ is_id_used (owed p a c) did =
    λ did. any-owed p a c v (λ owing. nat_eq owing.did did) h in
    let number = is.number in
    let size = length-owed p a c v h in
    λ i. option_map_or (id_of (number i)) (first_where (λ n. not (used (id_of (number i) n) i)) (size i + 1)) 0

-- the kind
kind-of : (p : Past) (a c : ℕ) (dirty : ℕ → Bool) (v : AgentView) (need : Need) → IsAgentOf p a v
    → HasLinesOf p a c c dirty v → kind_by v need ≡ kind_needed p a c need
unfolding kind_needed may_upgrade
kind-of p a c dirty v need is lines = grind arith

-- what is wanted for a need, by its victim
abbrev want_with : Option ℕ → AgentView → Need → Want
want_with victim v need =
    elim victim [
      | Some victim ↦ record { request = write_back_of victim (free_id_by v); locked = false }
      | None ↦ record { request = request_of_kind (kind_by v need) need (free_id_by v); locked = need.locked }
    ]

want-for : (p : Past) (a c : ℕ) (v : AgentView) (need : Need) → IsAgentOf p a v
    → HasLinesOf p a c c (λ line. is_dirty p a line c) v → HasRequestsOf p a c (owed p a c) v
    → (want_for_by v need).request ≡ want_for p a c (owed p a c) need
unfolding want_for
want-for p a c v need is lines h = grind (arith, victim-by, kind-of, free-id)

-- what is wanted, where there is no silence
abbrev unless : Bool → Option Request → Option Request
unless silent want = elim silent [ true ↦ None | false ↦ want ]

-- what is wanted of a window that begins with the item of this number
abbrev want_in : Past → ℕ → (Need → Bool) → (Need → Request) → Option ℕ → Option Request
want_in p a f g next = option_map g (find f (needs_from [] (option_map_or (window_at p a) next [])))

-- nothing is wanted behind the last item, whether the agent idles there or not
still : (p : Past) (a : ℕ) (idle idling few : Bool) (next : Option ℕ) (f : Need → Bool) (g : Need → Request)
    → (is_some next && idle) ≡ idling
    → unless (idle || few) (want_in p a f g next) ≡ unless (idling || few) (want_in p a f g next)
unfolding needs_from
still p a idle idling few next f g h1 = grind arith

-- the request of what is wanted
request-if : (silent : Bool) (next : Option Need) (want : Need → Want)
    → option_map (λ (want : Want). want.request) (elim silent [ true ↦ None | false ↦ option_map want next ])
    ≡ elim silent [ true ↦ None | false ↦ option_map (λ need. (want need).request) next ]
request-if silent next want = grind arith

-- where there is a hit the agent does not idle
hit-busy : (p : Past) (a c : ℕ) → is_hit p a c ≡ true → is_idling p a c ≡ false
unfolding is_hit
hit-busy p a c e = not-true (is_idling p a c) (and_parts (not (is_idling p a c)) _ e).0

pub want-by : (p : Past) (a c : ℕ) (v : AgentView) → IsViewAfterHit p a c v
    → option_map (λ (want : Want). want.request) (want_by v c) ≡ want_of p a c
unfolding want_of window
want-by p a c v h =
    let dirty : ℕ → Bool = λ line. is_dirty p a line c in
    let items = window-by p a c (is_hit p a c) v h.agent h.placed.item in
    let idle = idle-by p a c (is_hit p a c) v h.placed.item (hit-busy p a c) in
    let ahead = h.agent.ahead in
    let size = length-owed p a c v h.requests in
    let missing : (need : Need) → is_missing_by v need ≡ is_missing p a c (owed p a c) need =
    λ need. missing-of p a c dirty v need h.agent h.lines h.requests in
    let want : (need : Need) → (want_for_by v need).request ≡ want_for p a c (owed p a c) need =
    λ need. want-for p a c v need h.agent h.lines h.requests in
    request-if (is_silent_by v c) (missing_by v c) (want_for_by v)
    ∙ (λ i. elim (is_idle_by v c || nat_le (ahead i) (size i)) [
      | true ↦ None
      | false ↦ option_map (λ need. want need i) (find (λ need. missing need i) (needs_from [] (items i)))
    ])
    ∙ still p a (is_idle_by v c) (is_idling p a c) (nat_le p.plan.ahead (length (owed p a c))) (next_number p a c)
    (is_missing p a c (owed p a c)) (want_for p a c (owed p a c)) idle
