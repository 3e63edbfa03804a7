use Rattle.std.proofs.Common.{ℕ, drop, ◌≡◌, ◌+◌, ◌++◌, ◌∷◌, [], List, length, map, Option, vec_capacity, sym, subst, ap}
use Rattle.std.proofs.Common.{◌∙◌, arith}
use Rattle.std.proofs.Math.Seq.{drop-append_seam}
use Rattle.std.proofs.lemmas.List.{length-append}
use Rattle.std.specs.Option.{option_map_or}
use Rattle.fsb_arbiter.specs.Arbiter as arbiters
use Rattle.fsb_arbiter.specs.declared.arbiter.Arbiter.{Arbiter}
use Rattle.fsb_hazard.specs.Told.{Told}
use Rattle.fsb_memory.specs.Controller.{is_mapped}
use Rattle.fsb_phase.specs.Phases as phases
use Rattle.fsb_phase.specs.declared.phases.Phases.{Phases}
use Rattle.fsb_signal.specs.declared.sample.Sample.{Sample}
use Rattle.fsb_timely.specs.Asked.{IsChosen, IsHold}
use Rattle.fsb_bench_view.specs.BenchSteps.{step_entries}
use Rattle.fsb_bench_view.specs.BusLocking.{retried_by}
use Rattle.fsb_bus.specs.Buses.{bus_view}
use Rattle.fsb_bus.specs.LogRoom.{accesses_left_of}
use Rattle.fsb_core.specs.BareBenches.{bare_view}
use Rattle.fsb_core.proofs.AgentCounts.{heard-count, heard-starts}
use Rattle.fsb_core.proofs.Clocks.{begun-room, decided-is, driven-chunk, hear-may, queue-taken, sampled-is}
use Rattle.fsb_core.proofs.Clocks.{start-lawful, words-lawful}
use Rattle.fsb_core.proofs.StepTaken.{log-is, one-choice, released-are, stepped-is}
use Rattle.fsb_core.proofs.bare.BareBench.advance.Goals as goal

pub sample-sample-requires-clause-words : goal.sample-sample-requires-clause-words
sample-sample-requires-clause-words g c =
    let m = c.args.self.now in
    let b = c.fetch_and_perform.new.bus in
    let may = c.requires.may c.ask_hold-hold.result in
    let at = decided-is m b c.ask_hold-hold.result c.clock-clock.result c.drive-drive.result c.winner-winner.result
    c.was_held-was_held.result c.decide-decided.result _ c.requires.fit may c.clock-clock.ensures
    c.drive-drive.ensures c.fetch_and_perform.ensures.view c.fetch_and_perform.ensures.rest c.winner-winner.ensures
    c.was_held-was_held.ensures c.decide-decided.ensures in
    words-lawful _ _ _ _ _ _ at may

pub sample-sample-requires-clause-starting : goal.sample-sample-requires-clause-starting
sample-sample-requires-clause-starting g c =
    let m = c.args.self.now in
    let b = c.fetch_and_perform.new.bus in
    let may = c.requires.may c.ask_hold-hold.result in
    let at = decided-is m b c.ask_hold-hold.result c.clock-clock.result c.drive-drive.result c.winner-winner.result
    c.was_held-was_held.result c.decide-decided.result _ c.requires.fit may c.clock-clock.ensures
    c.drive-drive.ensures c.fetch_and_perform.ensures.view c.fetch_and_perform.ensures.rest c.winner-winner.ensures
    c.was_held-was_held.ensures c.decide-decided.ensures in
    start-lawful _ _ _ _ _ _ at may

pub sample-sample-requires-clause-chunk : goal.sample-sample-requires-clause-chunk
sample-sample-requires-clause-chunk g c =
    let m = c.args.self.now in
    let b = c.fetch_and_perform.new.bus in
    let may = c.requires.may c.ask_hold-hold.result in
    let at = decided-is m b c.ask_hold-hold.result c.clock-clock.result c.drive-drive.result c.winner-winner.result
    c.was_held-was_held.result c.decide-decided.result _ c.requires.fit may c.clock-clock.ensures
    c.drive-drive.ensures c.fetch_and_perform.ensures.view c.fetch_and_perform.ensures.rest c.winner-winner.ensures
    c.was_held-was_held.ensures c.decide-decided.ensures in
    driven-chunk _ _ _ _ _ at

pub hear-requires-clause-may : goal.hear-requires-clause-may
hear-requires-clause-may g c =
    let m = c.args.self.now in
    let b = c.fetch_and_perform.new.bus in
    let may = c.requires.may c.ask_hold-hold.result in
    let at = decided-is m b c.ask_hold-hold.result c.clock-clock.result c.drive-drive.result c.winner-winner.result
    c.was_held-was_held.result c.decide-decided.result _ c.requires.fit may c.clock-clock.ensures
    c.drive-drive.ensures c.fetch_and_perform.ensures.view c.fetch_and_perform.ensures.rest c.winner-winner.ensures
    c.was_held-was_held.ensures c.decide-decided.ensures in
    let took = sampled-is m b c.ask_hold-hold.result c.clock-clock.result c.decide-decided.result
    c.sample-sample.result c.absorb-phased.result c.absorb-phased.new.self _ c.requires.fit may at
    c.fetch_and_perform.ensures.rest c.sample-sample.ensures c.absorb-phased.ensures.result
    c.absorb-phased.ensures.stands in
    hear-may _ _ _ _ _ _ _ _ _ _ at took may
    (λ line is. ap (λ x. is_mapped x.memory line) c.fetch_and_perform.ensures.rest ∙ c.requires.fit.named line is)

pub take_clock-requires : goal.take_clock-requires
take_clock-requires g c =
    let m = c.args.self.now in
    let b = c.fetch_and_perform.new.bus in
    let may = c.requires.may c.ask_hold-hold.result in
    let at = decided-is m b c.ask_hold-hold.result c.clock-clock.result c.drive-drive.result c.winner-winner.result
    c.was_held-was_held.result c.decide-decided.result _ c.requires.fit may c.clock-clock.ensures
    c.drive-drive.ensures c.fetch_and_perform.ensures.view c.fetch_and_perform.ensures.rest c.winner-winner.ensures
    c.was_held-was_held.ensures c.decide-decided.ensures in
    let same_queue = ap (λ x. x.queue) c.lock.ensures.rest ∙ c.hear.ensures.queue ∙ ap (λ x. x.queue)
    c.fetch_and_perform.ensures.rest in
    begun-room _ _ _ _ _ c.ask_choice-choice.result c.entry_begun-begun.result c.lock.new.self.queue at same_queue
    c.entry_begun-begun.ensures

pub returns-clause-fit : goal.returns-clause-fit
returns-clause-fit g c =
    let m = c.args.self.now in
    let b = c.fetch_and_perform.new.bus in
    let may = c.requires.may c.ask_hold-hold.result in
    let at = decided-is m b c.ask_hold-hold.result c.clock-clock.result c.drive-drive.result c.winner-winner.result
    c.was_held-was_held.result c.decide-decided.result _ c.requires.fit may c.clock-clock.ensures
    c.drive-drive.ensures c.fetch_and_perform.ensures.view c.fetch_and_perform.ensures.rest c.winner-winner.ensures
    c.was_held-was_held.ensures c.decide-decided.ensures in
    let took = sampled-is m b c.ask_hold-hold.result c.clock-clock.result c.decide-decided.result
    c.sample-sample.result c.absorb-phased.result c.absorb-phased.new.self _ c.requires.fit may at
    c.fetch_and_perform.ensures.rest c.sample-sample.ensures c.absorb-phased.ensures.result
    c.absorb-phased.ensures.stands in
    let fit = c.requires.fit in
    let longer : length c.append.new.items.items ≡ length m.trace.items + 1 =
    ap length c.append.ensures.items ∙ length-append m.trace.items (c.sample-sample.result ∷ []) in
    let held : length c.append-2.new.items.items ≡ length m.holds.items + 1 =
    ap length c.append-2.ensures.items ∙ length-append m.holds.items (c.ask_hold-hold.result ∷ []) in
    let fresh = option_map_or (λ first. c.ask_choice-choice.result ∷ []) c.decide-decided.result.starting [] in
    let chosen : length c.add_choice.new.choices.items ≡ length m.choices.items + length fresh =
    ap length c.add_choice.ensures.items ∙ length-append m.choices.items fresh in
    let few = one-choice c.ask_choice-choice.result c.decide-decided.result.starting in
    let started : length c.lock.new.self.started.items ≡ length m.bus.started.items + length fresh =
    ap (λ x. length x.started) c.lock.ensures.view ∙ ap (λ x. length x.started) c.hear.ensures.view
    ∙ heard-starts (bus_view b) c.clock-clock.result c.decide-decided.result c.absorb-phased.result
    c.ask_choice-choice.result
    ∙ ap (λ x. length x.started.items + length fresh) c.fetch_and_perform.ensures.rest in
    let left : accesses_left_of c.lock.new.self.agents.items ≡ accesses_left_of c.hear.new.self.agents.items =
    ap (λ x. accesses_left_of x.agents.items) c.lock.ensures.rest in
    let start_rooms : vec_capacity c.lock.new.self.started ≡ vec_capacity m.bus.started =
    ap (λ x. vec_capacity x.started) c.lock.ensures.rest ∙ c.hear.ensures.started ∙ ap (λ x. vec_capacity x.started)
    c.fetch_and_perform.ensures.rest in
    let S : Arbiter → Type 0 = λ a. arbiters.Stands a m.trace.items in
    let T : Phases → Type 0 = λ a. phases.Stands a (m.trace.items ++ c.sample-sample.result ∷ []) in
    let A : List Sample → Type 0 = arbiters.Stands c.absorb.new.self in
    let F : List Sample → Type 0 = phases.Stands c.lock.new.self.phases in
    let same_arbiter = ap (λ x. x.arbiter) c.lock.ensures.rest ∙ c.hear.ensures.arbiter ∙ ap (λ x. x.arbiter)
    c.fetch_and_perform.ensures.rest in
    let same_phases = ap (λ x. x.phases) c.lock.ensures.rest ∙ c.hear.ensures.phases in
    record {
      stands = record {
        arbiter = subst A (sym c.append.ensures.items)
            (c.absorb.ensures m.trace.items (subst S (sym same_arbiter) fit.stands.arbiter));
        phases = subst F (sym c.append.ensures.items) (subst T (sym same_phases) took.stands);
      };
      agents =
          ap (λ x. length x.agents) c.lock.ensures.view ∙ ap (λ x. length x.agents) c.hear.ensures.view
          ∙ heard-count (bus_view b) c.clock-clock.result c.decide-decided.result c.absorb-phased.result
          ∙ c.fetch_and_perform.ensures.count ∙ fit.agents;
      started = omega (arith, started, chosen, fit.started);
      named = λ line is.
          ap (λ x. is_mapped x.memory line) c.lock.ensures.rest ∙ c.hear.ensures.named line
          ∙ ap (λ x. is_mapped x.memory line) c.fetch_and_perform.ensures.rest ∙ fit.named line is;
      clocks = omega (arith, longer, c.requires.clocks);
      holds = omega (arith, longer, held, fit.holds);
      choices = omega (arith, longer, chosen, few, fit.choices);
      log_room = omega (arith, left, c.hear.ensures.room);
      trace_room = omega (arith, c.append.ensures.room, fit.trace_room);
      choice_room = omega (arith, c.add_choice.ensures.room, fit.choice_room);
      hold_room = omega (arith, c.append-2.ensures.room, fit.hold_room);
      start_room = omega (arith, start_rooms, fit.start_room);
    }

pub returns-clause-stepped : goal.returns-clause-stepped
returns-clause-stepped g c =
    let m = c.args.self.now in
    let b = c.fetch_and_perform.new.bus in
    let may = c.requires.may c.ask_hold-hold.result in
    let at = decided-is m b c.ask_hold-hold.result c.clock-clock.result c.drive-drive.result c.winner-winner.result
    c.was_held-was_held.result c.decide-decided.result _ c.requires.fit may c.clock-clock.ensures
    c.drive-drive.ensures c.fetch_and_perform.ensures.view c.fetch_and_perform.ensures.rest c.winner-winner.ensures
    c.was_held-was_held.ensures c.decide-decided.ensures in
    let took = sampled-is m b c.ask_hold-hold.result c.clock-clock.result c.decide-decided.result
    c.sample-sample.result c.absorb-phased.result c.absorb-phased.new.self _ c.requires.fit may at
    c.fetch_and_perform.ensures.rest c.sample-sample.ensures c.absorb-phased.ensures.result
    c.absorb-phased.ensures.stands in
    let same_queue = ap (λ x. x.queue) c.lock.ensures.rest ∙ c.hear.ensures.queue ∙ ap (λ x. x.queue)
    c.fetch_and_perform.ensures.rest in
    let v = bare_view m in
    let hold = c.ask_hold-hold.result in
    let choice = c.ask_choice-choice.result in
    let clock = c.clock-clock.result in
    let decided = c.decide-decided.result in
    let drives = ap (λ d. d.drive) c.decide-decided.ensures in
    let driven = sym drives ∙ ap (λ d. d.drive) at.decided_is in
    let queue_is = queue-taken m hold clock c.sample-sample.result c.absorb-phased.result c.absorb-phased.new.self
    c.lock.new.self.queue c.take_clock.new.queue c.outcome_snooped-outcome.result c.has-error.result
    c.entry_begun-begun.result _ c.requires.fit may c.clock-clock.ensures took same_queue c.has-error.ensures
    c.take_clock.ensures in
    let log_is = log-is v hold clock (bus_view b) decided c.drive-drive.result c.sample-sample.result
    c.absorb-phased.result c.absorb-phased.new.self c.fetch_and_perform.new.log.entries c.hear.new.log.entries at
    took driven c.fetch_and_perform.ensures.entries c.hear.ensures.entries in
    let fresh =
    c.entries_since-entries.ensures
    ∙ ap (λ n. drop n c.hear.new.log.entries) (ap length c.as_slice-done.ensures)
    ∙ ap (drop (length m.log.entries)) log_is
    ∙ drop-append_seam m.log.entries (step_entries v hold) in
    let asked_again = c.retried-retried.ensures ∙ ap (retried_by (bus_view m.bus)) driven in
    let lost = ap (λ d. d.cancelled) at.decided_is in
    let H : ℕ → Type 0 = λ n. IsHold (map g.H.Hazard.told c.args.objects.now) n hold in
    let T : List (Option Told) → Type 0 = λ objects. IsChosen objects c.request_number-number.result choice in
    let N : ℕ → Type 0 = λ n. IsChosen (map g.H.Hazard.told c.args.objects.now) n choice in
    record {
      hold = hold;
      choice = choice;
      held = subst H c.clock-clock.ensures c.ask_hold-hold.ensures.held;
      chosen = λ starting begins.
          subst N c.request_number-number.ensures
          (subst T c.ask_hold-hold.ensures.told_stays
          (c.ask_choice-choice.ensures.chosen starting (ap (λ d. d.starting) at.decided_is ∙ begins)));
      stepped =
          stepped-is v hold choice clock (bus_view b) (bus_view c.hear.new.self) (bus_view c.lock.new.self) decided
          c.sample-sample.result c.absorb-phased.result c.absorb-phased.new.self _ c.outcome_snooped-outcome.result
          c.entry_begun-begun.result c.take_clock.new.queue c.as_slice-scripts.result.now
          c.add_choice.new.choices.items c.append-2.new.items.items c.append.new.items.items c.hear.new.log.entries
          at took c.as_slice-scripts.ensures c.hear.ensures.view c.lock.ensures.view
          (released-are v hold c.entries_since-entries.result.now c.retried-retried.result decided.cancelled fresh
          asked_again lost) c.outcome_snooped-outcome.ensures c.entry_begun-begun.ensures queue_is
          c.add_choice.ensures.items c.append-2.ensures.items c.append.ensures.items log_is;
    }
