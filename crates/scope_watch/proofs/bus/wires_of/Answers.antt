use Rattle.std.proofs.Common.{◌≡◌, true, sym, subst}
use Rattle.std.specs.List.{list_all}
use Rattle.vcd_way.specs.Lawful.{is_line, is_lawful_tap}
use Rattle.scope_watch.proofs.Wiring.{lawful-lines, lawful-taps}
use Rattle.scope_watch.proofs.bus.wires_of.Goals as goal

pub new-wires-requires : goal.new-wires-requires
new-wires-requires c =
    subst (λ x. list_all is_line x ≡ true) (sym c.in_ok-lines.ensures) (lawful-lines c.args.picked.now c.requires)

pub add-requires : goal.add-requires
add-requires c =
    subst (λ x. list_all is_lawful_tap x ≡ true) (sym c.in_ok-taps.ensures)
    (lawful-taps c.args.variables.now c.deref.result.now c.args.picked.now c.requires)
