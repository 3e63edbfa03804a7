use Rattle.std.proofs.Common.{Some, option_map, option_copied, ap, sym, ◌∙◌}
use Rattle.vcd_grammar.specs.Codes.{lines_of}
use Rattle.vcd_read.specs.CodesView.{lines_at}
use Rattle.vcd_read.proofs.CodeKeys.{found, not_found}
use Rattle.vcd_read.proofs.codes.Codes.lines.Goals as goal

pub returns-in_err-key : goal.returns-in_err-key
returns-in_err-key c =
    ap (option_map (λ lines. lines.now)) c.from_residual.ensures
    ∙ sym (not_found c.self.inside.long.entries (lines_at c.self.inside.groups.items) c.args.code.now
    c.self.inside.all.entries (sym c.key_of.ensures ∙ c.in_err-key.was) c.self.invariant.keys)
    ∙ ap (λ cs. lines_of cs c.args.code.now) c.self.view_is

pub returns-in_err-place : goal.returns-in_err-place
returns-in_err-place c =
    let at = lines_at c.self.inside.groups.items in
    ap (option_map (λ lines. lines.now)) c.from_residual-in_err-place.ensures
    ∙ ap (λ o. option_map at (option_copied o)) (sym c.in_err-place.was)
    ∙ ap (option_map at) c.get.ensures
    ∙ found c.self.inside.long.entries at c.args.code.now c.in_ok-key.key c.self.inside.all.entries c.type_inv.code
    c.self.invariant.apart (sym c.key_of.ensures ∙ c.in_ok-key.was) c.self.invariant.keys
    ∙ ap (λ cs. lines_of cs c.args.code.now) c.self.view_is

pub returns : goal.returns
returns c =
    let at = lines_at c.self.inside.groups.items in
    ap Some (c.lines_at.ensures ∙ ap (λ groups. lines_at groups c.in_ok-place.place.now) c.as_slice.ensures.value)
    ∙ ap (λ o. option_map at (option_copied o)) (sym c.in_ok-place.was)
    ∙ ap (option_map at) c.get.ensures
    ∙ found c.self.inside.long.entries at c.args.code.now c.in_ok-key.key c.self.inside.all.entries c.type_inv.code
    c.self.invariant.apart (sym c.key_of.ensures ∙ c.in_ok-key.was) c.self.invariant.keys
    ∙ ap (λ cs. lines_of cs c.args.code.now) c.self.view_is
