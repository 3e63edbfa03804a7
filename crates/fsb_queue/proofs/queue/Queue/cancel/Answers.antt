use Rattle.std.proofs.Common.{[], ◌∷◌, ◌++◌, ◌≡◌, ◌<◌, ◌≤◌, length, take, drop, None, refl, sym, ap, ◌∙◌, true, is_some}
use Rattle.std.proofs.Common.{◌⊎◌, inl, inr, arith}
use Rattle.std.proofs.lemmas.Bool.{eq-eqb}
use Rattle.std.proofs.lemmas.List.{append-nil}
use Rattle.fsb_count.proofs.Interface.{is_some-none}
use Rattle.circular_buffer.specs.Buffer.{keep_last}
use Rattle.fsb_queue.specs.Entries.{entry_of, without}
use Rattle.fsb_queue.proofs.EntryLists.{passed_found, passed_kept, passed_there}
use Rattle.fsb_queue.proofs.queue.Queue.cancel.Goals as goal
use Rattle.fsb_queue.proofs.queue.Queue.cancel.Goals.{in-Some+then-is_none+then-entry-number, in-Some+else-is_none}
use Rattle.fsb_queue.proofs.queue.Queue.cancel.Goals.{else-is_none-via-then-is_none+else-entry-number}
use Rattle.fsb_queue.proofs.queue.Queue.cancel.Goals.{else-is_none-via-else-is_none, in_default}

pub loop-init : goal.loop-init
unfolding entry_of without
loop-init c = record { items = sym (append-nil c.self.inside.entries.items); found = refl; capacity = c.self.invariant }

pub loop-preserved : goal.loop-preserved
loop-preserved c =
    let es = c.self.inside.entries.items in
    let k = c.loop.counter in
    let number = c.args.number in
    let below : k < length es = omega (arith, c.len-count.ensures.len) in
    let small : length es ≤ 8 = omega (arith, c.len-count.ensures.within, c.self.invariant) in
    elim c.match-pop_front.branch [
      | in-Some+then-is_none+then-entry-number w ↦
          let none : entry_of number (take k es) ≡ None = sym c.loop.invariant.found
          ∙ is_some-none c.loop.found w.if-is_none.ensures in
          let step = passed_found number k es c.loop.self-inside.entries.items w.in-Some.entry
          c.loop.invariant.items below
          (sym c.pop_front.ensures.value ∙ w.in-Some.is) none (eq-eqb _ _ w.if-entry-number.true) in
          record {
            items = ap (λ q. q.entries.items) w.self-inside-is ∙ ap (λ b. b.items) c.pop_front.ensures.items ∙ step.0;
            found = w.found-is ∙ step.1;
            capacity = ap (λ q. q.entries.capacity) w.self-inside-is
                ∙ ap (λ b. b.capacity) c.pop_front.ensures.items ∙ c.loop.invariant.capacity;
          }
      | in-Some+else-is_none w ↦
          let kept : (is_some c.loop.found ≡ true) ⊎ (w.in-Some.entry.number ≡ number → ⊥) =
          elim w.else-is_none.branch [
            | else-is_none-via-then-is_none+else-entry-number w' ↦ inr w'.if-entry-number.false
            | else-is_none-via-else-is_none w' ↦ inl w'.if-is_none.ensures
          ] in
          let step = passed_kept number k 8 es c.loop.self-inside.entries.items w.in-Some.entry c.loop.found
          c.loop.invariant.items below small
          (sym c.pop_front.ensures.value ∙ w.in-Some.is) (sym c.loop.invariant.found) kept in
          let room : c.pop_front.new.self.capacity ≡ 8 = ap (λ b. b.capacity) c.pop_front.ensures.items
          ∙ c.loop.invariant.capacity in
          let left : c.pop_front.new.self.items ≡ drop 1 c.loop.self-inside.entries.items =
          ap (λ b. b.items) c.pop_front.ensures.items in
          record {
            items =
                ap (λ q. q.entries.items) w.self-inside-is ∙ ap (λ b. b.items) w.push_back.ensures.items
                ∙ ap (λ n. keep_last n (c.pop_front.new.self.items ++ w.in-Some.entry ∷ [])) room
                ∙ ap (λ ys. keep_last 8 (ys ++ w.in-Some.entry ∷ [])) left ∙ step.0;
            found = w.found-is ∙ step.1;
            capacity = ap (λ q. q.entries.capacity) w.self-inside-is
                ∙ ap (λ b. b.capacity) w.push_back.ensures.items ∙ room;
          }
      | in_default w ↦
          absurd (passed_there number k es c.loop.self-inside.entries.items c.loop.invariant.items below
          (sym c.pop_front.ensures.value ∙ w.in_default.is))
    ]
