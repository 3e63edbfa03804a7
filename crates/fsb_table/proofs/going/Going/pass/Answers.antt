use Rattle.std.proofs.Common.{◌≡◌, ◌+◌, ℕ, length, sym, ap, ◌∙◌, subst}
use Rattle.std.specs.Option.{option_map}
use Rattle.fsb_count.specs.Clocks.{nth_where, from_clock}
use Rattle.fsb_trace.specs.At.{responds_at}
use Rattle.fsb_trace.specs.Outcome.{response_clock_of}
use Rattle.fsb_table.proofs.Goes.{next_clear, next_response, no_response}
use Rattle.fsb_table.proofs.going.Going.pass.Goals as goal
use Rattle.fsb_table.proofs.going.Going.pass.Goals.{in-Some, in-None, in-Some-response, in-None-response}

pub returns : goal.returns
returns c i stands snoop response =
    let w = c.args.w.now in
    let next : ℕ → Type 0 = λ n. response_clock_of w (i + 1) ≡ nth_where (from_clock n (responds_at w)) 0 (length w) in
    record {
      clear = elim c.match-snoop.branch [
        | in-Some b ↦ b.self-is ∙ ap (option_map (λ s. s + 3)) (sym b.in-Some.is) ∙ next_clear w i c.args.snoop snoop
        | in-None b ↦ b.self-is ∙ ap (option_map (λ s. s + 3)) (sym b.in-None.is) ∙ next_clear w i c.args.snoop snoop
      ];
      response = elim c.match-response.branch [
        | in-Some-response b ↦ subst next (sym b.self-is) (next_response w i _ (sym response ∙ b.in-Some-response.is))
        | in-None-response b ↦ subst next (sym b.self-is) (no_response w i (sym response ∙ b.in-None-response.is))
      ];
    }
