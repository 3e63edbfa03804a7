-- A response and the end of the oldest link keep the bytes of a line.
use Rattle.std.proofs.Common.{◌≡◌, ◌≢◌, ◌==◌, ℕ, Bool, true, false, cond, not, ◌&&◌, ◌||◌, inl, inr, Some, None, List}
use Rattle.std.proofs.Common.{[], ◌∷◌, refl, sym, ◌∙◌, ap, subst, arith}
use Rattle.std.proofs.lemmas.Bool.{false_from_ne_true}
use Rattle.std.proofs.lemmas.Bool.Decides.{nat_tests}
use Rattle.fsb_line.specs.Coherence.{Ordered, Valued}
use Rattle.fsb_line.specs.Events.{arrived, changed, responded}
use Rattle.fsb_line.specs.Line.{Bytes, MemoryLine, brought, has_copy, put, source}
use Rattle.fsb_line.specs.Links.{IsChained, giver_after, has_late_upgrade, any_won, has_won, is_linked, is_overtaken}
use Rattle.fsb_line.specs.Links.{is_won, newest, owns, feeds_memory}
use Rattle.fsb_line.specs.States.{is_held, is_modified}
use Rattle.fsb_line.specs.declared.link.Link.{Link}
use Rattle.fsb_line.proofs.LinkFacts.{won_is_any}
use Rattle.fsb_line.proofs.StateFacts.{cond-other, cond-same, same_agent}

pub Valued-Responds : (x : MemoryLine) (ls : List Link) → x.chain ≡ ls → Valued x → Valued (responded x ls)
unfolding responded
Valued-Responds x [] e v = v
Valued-Responds x (l ∷ ls) e v = record {
  copies = v.copies;
  rests = v.rests;
  oldest = v.oldest;
  carried = λ bytes h. let g = v.oldest l ls e in cc;
  quiet = λ f. absurd (cc);
}

-- what the end of the oldest link brings are the line's bytes
pub brought_now : (x : MemoryLine) (l : Link) (ls : List Link) (bytes : Bytes) → x.chain ≡ l ∷ ls → Valued x
    → brought x l ≡ Some bytes → bytes ≡ x.now
brought_now x l ls bytes e v h = one (is_won l) refl
  where
    one : (w : Bool) → is_won l ≡ w → bytes ≡ x.now
    one true f =
        let won : has_won l.agent x.chain ≡ true = ap (has_won l.agent) e ∙ (let s = f in grind (arith, nat_tests)) in
        let own : has_copy x l.agent ≡ true = rw won in
        let c = v.copies l.agent own in
        let g : Some (x.copy l.agent) ≡ Some bytes = rw f at h in
        cc
    one false f = v.carried bytes (rw f at h)

-- an agent that has bytes behind a link of another sees that link own nothing
no_owner_before : (w held s own any late over : Bool) → (w || (held && not s)) ≡ true → (w ≡ true → any ≡ true)
    → ((own && any) || late) ≡ false → (held ≡ true → ((own && not s) || over) ≡ false) → own ≡ false
no_owner_before w held s false any late over h f g k = refl
no_owner_before true held s true any late over h f g k = absurd (let e = f refl in let q = rw e at g in cc)
no_owner_before false true false true any late over h f g k = absurd (let e = k refl in cc)
no_owner_before false true true true any late over h f g k = absurd (cc)
no_owner_before false false s true any late over h f g k = absurd (cc)

-- and had them before that link ended, if they are another's
has_copy-rest : (x : MemoryLine) (l : Link) (ls : List Link) (a : ℕ) → x.chain ≡ l ∷ ls → a ≢ l.agent
    → has_copy x a ≡ (has_won a ls || (is_held (x.state a) && not (is_linked a ls)))
has_copy-rest x l ls a e n =
    let other : (l.agent == a) ≡ false = grind (arith, nat_tests) in
    let won : has_won a x.chain ≡ has_won a ls = ap (has_won a) e ∙ rw other in
    let awaits : is_linked a x.chain ≡ is_linked a ls = ap (is_linked a) e ∙ rw other in
    rw (won, awaits)

no_copies_behind : (x : MemoryLine) (l : Link) (ls : List Link) (a : ℕ) → x.chain ≡ l ∷ ls → Ordered x
    → a ≢ l.agent → (has_won a ls || (is_held (x.state a) && not (is_linked a ls))) ≡ true → owns l ≡ false
no_copies_behind x l ls a e o n h =
    let other : (l.agent == a) ≡ false = grind (arith, nat_tests) in
    let no_late : has_late_upgrade (l ∷ ls) ≡ false = sym (ap has_late_upgrade e) ∙ o.no_late_upgrade in
    let over : is_held (x.state a) ≡ true
    → ((owns l && not (is_linked a ls)) || is_overtaken a ls) ≡ false =
    λ held. rw other at (sym (ap (is_overtaken a) e) ∙ o.holds_on a held) in
    no_owner_before (has_won a ls) (is_held (x.state a)) (is_linked a ls) (owns l) (any_won ls)
    (has_late_upgrade ls) (is_overtaken a ls) h (won_is_any a ls) no_late over

-- its bytes are the line's after that end too
others_copies : (x : MemoryLine) (l : Link) (ls : List Link) (a : ℕ) (change : Bytes → Bytes) → x.chain ≡ l ∷ ls
    → Ordered x → Valued x → a ≢ l.agent
    → (has_won a ls || (is_held (x.state a) && not (is_linked a ls))) ≡ true → x.copy a ≡ changed l change x.now
others_copies x l ls a change e o v n h =
    let reads : owns l ≡ false = no_copies_behind x l ls a e o n h in
    rw reads (v.copies a (has_copy-rest x l ls a e n ∙ h))

-- where the oldest link owns, no other agent has bytes
pub no_copies : (x : MemoryLine) (l : Link) (ls : List Link) (a : ℕ) → x.chain ≡ l ∷ ls → Ordered x
    → owns l ≡ true → a ≢ l.agent → has_copy x a ≡ false
no_copies x l ls a e o w n = false_from_ne_true (has_copy x a)
    (λ h. let reads = no_copies_behind x l ls a e o n (sym (has_copy-rest x l ls a e n) ∙ h) in cc)

-- the memory has the line's bytes after the end of a link that owns nothing
memory_after : (x : MemoryLine) (l : Link) (ls : List Link) (bytes : Bytes) → x.chain ≡ l ∷ ls → bytes ≡ x.now
    → Valued x → cond (feeds_memory l) bytes x.memory ≡ x.now
memory_after x l ls bytes e b v = one (feeds_memory l) refl
  where
    one : (t : Bool) → feeds_memory l ≡ t → cond t bytes x.memory ≡ x.now
    one true f = b
    one false f = let g : Some x.memory ≡ Some x.now = rw f at (v.oldest l ls e) in cc

-- the last link to end owns nothing where nobody has the line Modified
last_reads : (x : MemoryLine) (l : Link) → x.chain ≡ l ∷ [] → Ordered x
    → ((a : ℕ) → is_modified (x.state a) ≡ false) → owns l ≡ false
last_reads x l e o g = false_from_ne_true (owns l) (λ h. let held = o.newest_owner l (ap newest e) h in
    let q = g l.agent in cc)

-- the next link gets the line's bytes: from the agent of the one that ended where that owns, else from the memory
next_source : (x : MemoryLine) (l k : Link) (ks : List Link) (change : Bytes → Bytes) (bytes : Bytes)
    → x.chain ≡ l ∷ k ∷ ks → bytes ≡ x.now → Ordered x → Valued x
    → source (arrived x l (k ∷ ks) change bytes) k ≡ Some (changed l change x.now)
unfolding arrived
next_source x l k ks change bytes e b o v =
    let chained : IsChained (l ∷ k ∷ ks) = subst IsChained e o.chained in
    let giver : k.giver ≡ giver_after l = chained.0 in
    one (owns l) refl giver
  where
    one : (w : Bool) → owns l ≡ w → k.giver ≡ giver_after l
        → source (arrived x l (k ∷ ks) change bytes) k ≡ Some (changed l change x.now)
    one true f giver = let g : k.giver ≡ Some l.agent = giver ∙ rw f in
        rw (g, f) (rw (cond-same l.agent (Some (change bytes)) None) (ap (λ b. Some (change b)) b))
    one false f giver = let g : k.giver ≡ None = giver ∙ rw f in
        rw (g, f) (ap Some (memory_after x l (k ∷ ks) bytes e b v))

pub Valued-Ends : (x : MemoryLine) (l : Link) (ls : List Link) (change : Bytes → Bytes) (bytes : Bytes)
    → x.chain ≡ l ∷ ls → bytes ≡ x.now → Ordered x → Valued x → Valued (arrived x l ls change bytes)
unfolding arrived put
Valued-Ends x l ls change bytes e b o v = record {
  copies = λ a h. elim (same_agent a l.agent) [
    | inl same ↦ rw same (cond-same l.agent (changed l change bytes) (x.copy l.agent) ∙ ap (changed l change) b)
    | inr other ↦ cond-other a l.agent (changed l change bytes) (x.copy a) other
        ∙ others_copies x l ls a change e o v other h
  ];
  rests = λ f g. let reads = last_reads x l (e ∙ ap (λ m. l ∷ m) f) o g in rw reads (memory_after x l ls bytes e b v);
  oldest = λ k ks f. let e = e ∙ ap (λ m. l ∷ m) f in rw f (next_source x l k ks change bytes e b o v);
  carried = λ bytes f. absurd (cc);
  quiet = λ f. refl;
}
