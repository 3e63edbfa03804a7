use Rattle.std.proofs.Common.{ap, sym, ◌∙◌, arith, Some, option_map}
use Rattle.vcd_scan.proofs.WireLemmas.{no_taps, place_within, taps_there}
use Rattle.vcd_scan.proofs.table.Wires.taps.Goals as goal

pub returns-in_err-place-clause-taps : goal.returns-in_err-place-clause-taps
returns-in_err-place-clause-taps c =
    let none = sym (c.args.self.now.placed c.args.code.now) ∙ sym c.place.ensures ∙ c.in_err-place.was in
    ap (option_map (λ taps. taps.now)) c.from_residual.ensures
    ∙ sym (no_taps c.args.self.now.wires.items c.args.code.now none)

pub index-requires : goal.index-requires
index-requires c =
    let there = sym (c.args.self.now.placed c.args.code.now) ∙ sym c.place.ensures ∙ c.in_ok-place.was in
    omega (
      arith,
      place_within c.args.self.now.wires.items c.args.code.now c.in_ok-place.place there,
      c.args.self.now.wires.ok.0,
    )

pub returns-clause-taps : goal.returns-clause-taps
returns-clause-taps c =
    let there = sym (c.args.self.now.placed c.args.code.now) ∙ sym c.place.ensures ∙ c.in_ok-place.was in
    ap Some c.as_slice.ensures.value
    ∙ taps_there c.args.self.now.wires.items c.args.code.now c.in_ok-place.place _ there c.index.ensures
