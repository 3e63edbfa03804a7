-- One more event before the part, in it, or behind it.
use Rattle.std.proofs.Common.{◌≡◌, ◌++◌, ◌∷◌, [], List, Bool, true, false, not, ◌&&◌, ◌||◌, refl, ap, sym, subst, arith, add-zero}
use Rattle.std.proofs.lemmas.Grind.{common_steps}
use Rattle.vcd_way.specs.Events.{DumpEvent, time_of}
use Rattle.scope_check.specs.declared.part.Part.{Part}
use Rattle.scope_check.specs.Bounds.{passes}
use Rattle.scope_check.specs.Parts.{IsParted, Throughout, opens, closes, is_sampled, is_none, begins, may_begin, clocks_of, quiet_run}

-- all of some, and one more
all_more : (is_so : List DumpEvent → DumpEvent → Bool) (es : List DumpEvent) (e : DumpEvent) → Throughout is_so es
    → is_so es e ≡ true → Throughout is_so (es ++ e ∷ [])
all_more is_so [] e all one = (one, tt)
all_more is_so (x ∷ es) e all one = (all.0, all_more (λ ys. is_so (x ∷ ys)) es e all.1 one)

-- the first of some is that of more
begins_still : (is_so : DumpEvent → Bool) (es : List DumpEvent) (e : DumpEvent) → is_none es ≡ false
    → begins is_so es ≡ true → begins is_so (es ++ e ∷ []) ≡ true
begins_still is_so [] e some first = grind (arith, some)
begins_still is_so (x ∷ es) e some first = first

pub none_more : (es : List DumpEvent) (e : DumpEvent) → is_none (es ++ e ∷ []) ≡ false
none_more [] e = refl
none_more (x ∷ es) e = refl

-- before the part
pub before_more : (p : Part) (es before part behind : List DumpEvent) (e : DumpEvent) → IsParted p es before part behind
    → part ≡ [] → behind ≡ [] → opens p before e ≡ false → IsParted p (es ++ e ∷ []) (before ++ e ∷ []) part behind
before_more p es before part behind e s no_part no_behind shut = record {
  whole = grind (arith, common_steps, s.whole, no_part, no_behind);
  unopened = all_more (λ ys x. not (opens p ys x)) before e s.unopened (ap not shut);
  opened = rw no_part refl;
  unclosed = rw no_part tt;
  closed = rw no_behind refl;
  begun = s.begun;
}

-- where a part may begin it does not end
not_both : (a b c : Bool) → (a && not b && c) ≡ true → not (not a || b) ≡ true
not_both true false c h = refl
not_both true true c h = cc
not_both false b c h = cc

first_stays : (p : Part) (before : List DumpEvent) (e : DumpEvent) → opens p before e ≡ true
    → not (closes p before [] e) ≡ true
first_stays p before e h =
    subst (λ n. not (not (is_sampled e) || passes p.to n (time_of e)) ≡ true) (sym (add-zero (clocks_of before)))
    (not_both (is_sampled e) (passes p.to (clocks_of before) (time_of e))
    (may_begin p.begin (clocks_of before) (quiet_run (before ++ e ∷ [])) e) h)

-- the part begins
pub part_begins : (p : Part) (es before part behind : List DumpEvent) (e : DumpEvent) → IsParted p es before part behind
    → part ≡ [] → behind ≡ [] → opens p before e ≡ true
    → IsParted p (es ++ e ∷ []) before (e ∷ []) []
part_begins p es before part behind e s no_part no_behind open_there = record {
  whole = grind (arith, common_steps, s.whole, no_part, no_behind);
  unopened = s.unopened;
  opened = open_there;
  unclosed = (first_stays p before e open_there, tt);
  closed = refl;
  begun = λ some. refl;
}

-- it goes on
pub part_goes_on : (p : Part) (es before part behind : List DumpEvent) (e : DumpEvent) → IsParted p es before part behind
    → is_none part ≡ false → behind ≡ [] → closes p before part e ≡ false
    → IsParted p (es ++ e ∷ []) before (part ++ e ∷ []) behind
part_goes_on p es before part behind e s some no_behind stays = record {
  whole = grind (arith, common_steps, s.whole, no_behind);
  unopened = s.unopened;
  opened = begins_still (opens p before) part e some s.opened;
  unclosed = all_more (λ ys x. not (closes p before ys x)) part e s.unclosed (ap not stays);
  closed = rw no_behind refl;
  begun = λ more. none_more part e;
}

-- behind it
behind_more : (p : Part) (es before part behind : List DumpEvent) (e : DumpEvent) → IsParted p es before part behind
    → is_none part ≡ false → begins (closes p before part) (behind ++ e ∷ []) ≡ true
    → IsParted p (es ++ e ∷ []) before part (behind ++ e ∷ [])
behind_more p es before part behind e s some stopped = record {
  whole = grind (arith, common_steps, s.whole);
  unopened = s.unopened;
  opened = s.opened;
  unclosed = s.unclosed;
  closed = stopped;
  begun = λ more. some;
}

-- it ends
pub part_ends : (p : Part) (es before part behind : List DumpEvent) (e : DumpEvent) → IsParted p es before part behind
    → is_none part ≡ false → behind ≡ [] → closes p before part e ≡ true
    → IsParted p (es ++ e ∷ []) before part (behind ++ e ∷ [])
part_ends p es before part behind e s some no_behind stops =
    behind_more p es before part behind e s some (rw no_behind stops)

-- any event where it has ended
pub rest_more : (p : Part) (es before part behind : List DumpEvent) (e : DumpEvent) → IsParted p es before part behind
    → is_none part ≡ false → is_none behind ≡ false
    → IsParted p (es ++ e ∷ []) before part (behind ++ e ∷ [])
rest_more p es before part behind e s some stopped =
    behind_more p es before part behind e s some (begins_still (closes p before part) behind e stopped s.closed)
