-- A bench may take the snoop end that it decides: each agent may see it, and there is room.
use Rattle.fsb_bench_run.proofs.Words
use Words.{ℕ, ◌+◌, ◌<◌, ◌≡◌, Bool, true, false, Option, Some, None, length, is_none, is_some, nat_eq, refl, sym, ap}
use Words.{subst, ◌∙◌, arith, inl, inr, grown-room, Request, Choice, Entry, Reaches, replied-on, Run, find-passes}
use Words.{request_at, is_reply_kind, Outcome, Deferred, Replied, SnoopSettled, step_cancelled, step_decided}
use Words.{step_entries, step_run, BenchView, next_clock_of, MaySnoop, IsBenchOf, settled_entries}
use Rattle.fsb_bench_run.proofs.AgentsSound as sound
use Rattle.fsb_bench_run.proofs.BusKept.{served-cancelled, waiting-cancelled}
use Rattle.fsb_bench_run.proofs.FewFlying.{few-held, filter-less}
use Rattle.fsb_bench_run.proofs.LogsNow.{reaches-step}
use Rattle.fsb_bench_run.proofs.SnoopCases.{SnoopsHere, snoop-cases}
use Rattle.fsb_bench_run.proofs.SnoopHeard.{IsSnoopHeard, hears-snoop}
use Rattle.fsb_bench_run.proofs.StepEntries.{step-with}

-- a request that is Deferred is no reply
deferred-plain : (s : Run) (n : ℕ) (x : SnoopSettled) → Reaches s (n + 1) → IsSnoopHeard s n x
    → x.outcome ≡ Deferred → is_reply_kind x.entry.request.kind ≡ false
deferred-plain s n x h k deferred = elim k.served [
  | inl c ↦ ap (λ (y : Request). is_reply_kind y.kind) (sym c.itself) ∙ c.plain
  | inr c ↦
      let replied = (replied-on s n k.end c.grant h k.there c.unclaimed c.grants).replied in
      absurd (let both : Replied ≡ Deferred = sym replied ∙ k.outcome ∙ deferred in let no : ⊥ = cc in no)
]

-- of the requests in flight one at least has no snoop end yet
open-one : (o : Option Outcome) → is_none o ≡ true → is_some o ≡ false
open-one o h1 = grind arith

few-served : (v : BenchView) (hold : Bool) (choice : Choice) → IsBenchOf v
    → SnoopsHere v hold choice (step_entries v hold) → length v.bus.served < 8
few-served v hold choice b c =
    let queue = v.bus.queue in
    let most = few-held v.run queue b.timely b.requests in
    let none = find-passes (λ (e : Entry). is_none e.outcome) queue c.now.entry c.now.first in
    let less = filter-less (λ (e : Entry). is_some e.outcome) queue c.now.place c.now.entry c.now.at
    (open-one c.now.entry.outcome none) in
    let count : length v.bus.served ≡ length (settled_entries queue) = b.served.count in
    omega (arith, most, less, count)

pub snoop-taken : (v : BenchView) (hold : Bool) (choice : Choice) (x : SnoopSettled) → IsBenchOf v
    → (step_decided v hold).snooped ≡ Some x → MaySnoop (step_cancelled v hold) x
snoop-taken v hold choice x b e =
    let s = step_run v hold choice in
    let n = next_clock_of v in
    let entries = step_entries v hold in
    let k = step-with v hold choice b in
    let h = reaches-step v hold choice b in
    let before = sound.sound-before v hold choice b in
    elim (snoop-cases v hold choice entries k.grows b.requests) [
      | inl c ↦
          let d = hears-snoop v hold choice entries k h c in
          let heard = subst (λ (y : SnoopSettled). IsSnoopHeard s n y) (one d.snooped x (sym d.decided ∙ e)) d.heard in
          record {
            commits = λ a w at.
                sound.snoop-may s n a x w h heard (before a w at) (nat_eq a x.served.agent) refl;
            deferrals = λ deferred.
                let decoded : request_at s.trace heard.end.first ≡ Some x.entry.request =
                ap (request_at s.trace) heard.entry ∙ heard.decoded in
                let room = grown-room v.run s heard.end x.entry.request v.bus.bridge.waiting k.grows b.bounds
                b.bridge.deferrals heard.there decoded (deferred-plain s n x h heard deferred) in
                let size = waiting-cancelled v hold in
                omega (arith, room, size);
            served =
                let few = few-served v hold choice b c in
                let size = ap length (served-cancelled v hold) in
                omega (arith, few, size);
          }
      | inr g ↦ absurd (none (step_decided v hold).snooped x g.none e)
    ]
  where
    one : (y z : SnoopSettled) → Some y ≡ Some z → y ≡ z
    one y z e = cc

    none : (o : Option SnoopSettled) (y : SnoopSettled) → o ≡ None → o ≡ Some y → ⊥
    none o y e f = cc
