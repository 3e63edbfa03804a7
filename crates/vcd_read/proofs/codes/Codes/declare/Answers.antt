use Rattle.std.proofs.Common.{◌≡◌, ◌≤◌, ◌++◌, length, unwrap_or, ap, sym, ◌∙◌, subst}
use Rattle.vcd_grammar.specs.Codes.{lines_of, with_code}
use Rattle.vcd_read.specs.CodesView.{codes_of, CodesKept, lines_at, only_of, lines_or_none}
use Rattle.vcd_read.proofs.CodeKeys.{inserted, kept_long, kept_grown, codes_long, codes_same, kept_declared}
use Rattle.vcd_read.proofs.CodeKeys.{place_found, lines_found}
use Rattle.vcd_read.proofs.codes.Codes.declare.Goals as goal

pub key_for-requires : goal.key_for-requires
key_for-requires c = c.self.invariant.apart

pub invariant_of-self : goal.invariant_of-self
invariant_of-self c = kept_long c.self.inside.single c.self.inside.long.entries c.key_for.new.long.entries
    c.self.inside.groups.items c.self.inside.all.entries c.self.invariant c.key_for.ensures.long
    c.key_for.ensures.kept

pub joined-requires : goal.joined-requires
joined-requires c =
    let found = c.unwrap_or-before.ensures ∙ ap (λ o. unwrap_or o 0) (c.copied.ensures ∙ c.get.ensures) in
    subst (λ place. place ≤ length c.self.inside.groups.items) (sym found)
    (place_found c.self.inside.groups.items c.in_ok-key.key c.self.inside.all.entries c.self.invariant.places)

pub invariant_of-self-in_err-place : goal.invariant_of-self-in_err-place
invariant_of-self-in_err-place c =
    kept_grown c.self.inside.single c.key_for.new.long.entries c.self.inside.groups.items c.joined.new.groups.items
    c.self.inside.all.entries
    (kept_long c.self.inside.single c.self.inside.long.entries c.key_for.new.long.entries
    c.self.inside.groups.items c.self.inside.all.entries c.self.invariant c.key_for.ensures.long
    c.key_for.ensures.kept) c.joined.ensures.kept

pub invariant_of-self-in_err-insert : goal.invariant_of-self-in_err-insert
invariant_of-self-in_err-insert c =
    subst (λ es. CodesKept c.self.inside.single c.key_for.new.long.entries c.joined.new.groups.items es)
    (ap (λ all. all.entries) (sym c.in_err-insert.ensures.unchanged))
    (kept_grown c.self.inside.single c.key_for.new.long.entries c.self.inside.groups.items
    c.joined.new.groups.items c.self.inside.all.entries
    (kept_long c.self.inside.single c.self.inside.long.entries c.key_for.new.long.entries
    c.self.inside.groups.items c.self.inside.all.entries c.self.invariant c.key_for.ensures.long
    c.key_for.ensures.kept) c.joined.ensures.kept)

-- what is kept once the code may be among the long ones, and once its lines are a group
with_long : (c : goal.After-set_single)
    → CodesKept c.self.inside.single c.key_for.new.long.entries c.self.inside.groups.items c.self.inside.all.entries
with_long c = kept_long c.self.inside.single c.self.inside.long.entries c.key_for.new.long.entries
    c.self.inside.groups.items c.self.inside.all.entries c.self.invariant c.key_for.ensures.long
    c.key_for.ensures.kept

with_group : (c : goal.After-set_single)
    → CodesKept c.self.inside.single c.key_for.new.long.entries c.joined.new.groups.items c.self.inside.all.entries
with_group c = kept_grown c.self.inside.single c.key_for.new.long.entries c.self.inside.groups.items
    c.joined.new.groups.items c.self.inside.all.entries (with_long c) c.joined.ensures.kept

-- neither changes the codes
grown : (c : goal.After-set_single)
    → codes_of c.key_for.new.long.entries (lines_at c.joined.new.groups.items) c.self.inside.all.entries
    ≡ codes_of c.key_for.new.long.entries (lines_at c.self.inside.groups.items) c.self.inside.all.entries
grown c = codes_same c.key_for.new.long.entries c.self.inside.groups.items c.joined.new.groups.items
    c.self.inside.all.entries c.self.invariant.places c.joined.ensures.kept

before : (c : goal.After-set_single)
    → codes_of c.key_for.new.long.entries (lines_at c.joined.new.groups.items) c.self.inside.all.entries
    ≡ c.args.self.now
before c = grown c
    ∙ codes_long c.self.inside.long.entries c.key_for.new.long.entries (lines_at c.self.inside.groups.items)
    c.self.inside.all.entries c.self.invariant.keys c.key_for.ensures.long ∙ c.self.view_is

-- the lines are those of the code and one more variable's
lines_are : (c : goal.After-set_single)
    → lines_at c.joined.new.groups.items c.in_ok-place.place
    ≡ lines_or_none (lines_of
    (codes_of c.key_for.new.long.entries (lines_at c.joined.new.groups.items) c.self.inside.all.entries)
    c.args.code.now) ++ c.args.line.now
lines_are c =
    let groups = c.self.inside.groups.items in
    let long = c.key_for.new.long.entries in
    let entries = c.self.inside.all.entries in
    let place = c.unwrap_or-before.ensures ∙ ap (λ o. unwrap_or o 0) (c.copied.ensures ∙ c.get.ensures) in
    let found = ap (lines_at groups) place
    ∙ lines_found long groups c.args.code.now c.in_ok-key.key entries c.type_inv.code (with_long c).apart
    c.in_ok-key.ensures.key (with_long c).keys
    ∙ ap (λ cs. lines_or_none (lines_of cs c.args.code.now)) (sym (grown c)) in
    c.in_ok-place.ensures.lines ∙ ap (λ lines. lines ++ c.args.line.now) found

pub invariant_of-self-2 : goal.invariant_of-self-2
invariant_of-self-2 c =
    rw (c.set_single.ensures, c.in_ok-insert.ensures.entries)
    (kept_declared c.self.inside.single c.key_for.new.long.entries c.joined.new.groups.items
    c.self.inside.all.entries c.args.code.now c.args.line.now c.in_ok-key.key c.in_ok-place.place _
    c.type_inv.code c.in_ok-key.ensures.key (with_group c) c.in_ok-place.ensures.within (lines_are c)
    (c.only_of-only.ensures
    ∙ ap only_of (c.lines_at.ensures ∙ ap (λ groups. lines_at groups c.in_ok-place.place) c.as_slice.ensures.value)))

pub returns : goal.returns
returns c =
    let long = c.key_for.new.long.entries in
    let at = lines_at c.joined.new.groups.items in
    let code = c.args.code.now in
    ap (λ es. codes_of long at es) c.in_ok-insert.ensures.entries
    ∙ inserted long at code c.in_ok-key.key c.in_ok-place.place c.args.line.now c.self.inside.all.entries
    c.type_inv.code (with_group c).apart c.in_ok-key.ensures.key (with_group c).keys (lines_are c)
    ∙ ap (λ cs. with_code cs code c.args.line.now) (before c)
