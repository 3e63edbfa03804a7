-- What an agent wants is a line that none of its outstanding requests is for.
use Rattle.std.proofs.Common.{ℕ, ◌≡◌, Bool, true, false, List, [], ◌∷◌, Option, Some, None, refl, inl, inr, nat_eq}
use Rattle.std.proofs.Common.{arith}
use Rattle.std.proofs.lemmas.Bool.{cases_Bool}
use Rattle.std.specs.List.{find, filter, list_any}
use Rattle.fsb_encode.specs.declared.request.Request.{Request}
use Rattle.fsb_timely.specs.Past.{Owing, Past}
use Rattle.fsb_timely.specs.Grants.{is_rival}
use Rattle.fsb_timely.specs.Scripts.{Need}
use Rattle.fsb_timely.specs.Wants.{request_of_kind, owed, is_asked_for, is_same_set, is_set_taken, is_missing}
use Rattle.fsb_timely.specs.Wants.{least_of, victim_of, write_back_of, want_for, want_of}

-- what is found passes the test
pub find-passes : {X : Type 0} (test : X → Bool) (xs : List X) (x : X) → find test xs ≡ Some x → test x ≡ true
find-passes test [] x e = absurd (let h : ⊥ = cc in h)
find-passes test (y ∷ ys) x e = grind (arith, find-passes test ys x)

least_of-more : (test : ℕ → Bool) (n m : ℕ) (ns : List ℕ) (o : Option ℕ) → least_of ns ≡ o
    → ((k : ℕ) → least_of ns ≡ Some k → test k ≡ true) → test n ≡ true → least_of (n ∷ ns) ≡ Some m → test m ≡ true
unfolding least_of
least_of-more test n m ns o h1 h2 h3 h4 = grind arith

none_found : (m : ℕ) → least_of [] ≡ Some m → ⊥
unfolding least_of
none_found m e = cc

-- the least of those that pass passes
least_of-passes : (test : ℕ → Bool) (ns : List ℕ) (m : ℕ) → least_of (filter test ns) ≡ Some m → test m ≡ true
least_of-passes test [] m e = absurd (let h : ⊥ = none_found m e in h)
least_of-passes test (n ∷ ns) m e =
    elim (cases_Bool (test n)) [
      | inl t ↦ least_of-more test n m (filter test ns) (least_of (filter test ns)) refl
          (least_of-passes test ns) t (let e' = rw t at e in e')
      | inr f ↦ least_of-passes test ns m (let e' = rw f at e in e')
    ]

-- a number that differs in a test is another one
differs : (test : ℕ → Bool) (n m : ℕ) → test n ≡ false → test m ≡ true → nat_eq n m ≡ false
differs test n m f t = grind arith

-- no request is for a line of a set of which none is
not_asked : (p : Past) (line other : ℕ) (owings : List Owing)
    → list_any (λ owing. is_same_set p line owing.claim.line) owings ≡ false → is_same_set p line other ≡ true
    → is_asked_for owings other ≡ false
unfolding is_asked_for
not_asked p line other [] e s = refl
not_asked p line other (owing ∷ owings) e s = grind (arith, not_asked p line other owings)

-- what is known of a need that may be asked for: no request is for its line, and none for a line of its set
pub missing-parts : (p : Past) (a c : ℕ) (owings : List Owing) (need : Need) → is_missing p a c owings need ≡ true
    → (is_asked_for owings need.line ≡ false)
    × (list_any (λ owing. is_same_set p need.line owing.claim.line) owings ≡ false)
unfolding is_missing is_set_taken
missing-parts p a c owings need e = grind arith

-- a victim lies in the set of the line that it makes room for
victim-set : (p : Past) (a c line victim : ℕ) → victim_of p a c line ≡ Some victim → is_same_set p line victim ≡ true
unfolding victim_of is_rival is_same_set
victim-set p a c line victim e = grind (arith, least_of-passes)

-- the line of the request for a need that may be asked for
want_for-new : (p : Past) (a c : ℕ) (owings : List Owing) (need : Need) → is_missing p a c owings need ≡ true
    → (o : Option ℕ) → victim_of p a c need.line ≡ o → is_asked_for owings (want_for p a c owings need).line ≡ false
unfolding want_for request_of_kind write_back_of
want_for-new p a c owings need missing None e = rw (e, want_for) (missing-parts p a c owings need missing).0
want_for-new p a c owings need missing (Some victim) e =
    rw (e, want_for) (not_asked p need.line victim owings (missing-parts p a c owings need missing).1
    (victim-set p a c need.line victim e))

-- what an agent wants is a line that none of its outstanding requests is for
pub want_of-new : (p : Past) (a c : ℕ) (request : Request) → want_of p a c ≡ Some request
    → is_asked_for (owed p a c) request.line ≡ false
unfolding want_of
want_of-new p a c request e = grind (arith, want_for-new, find-passes)
