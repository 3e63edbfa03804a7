-- What is found of a dump, from what was read of it.
use Rattle.std.proofs.Common.{◌≡◌, ◌≤◌, ℕ, ◌⊎◌, inl, inr, List, [], ◌++◌, length, None, Result, Ok, Err, IfOk, IfErr, option_map, refl, sym, ap, subst, ◌∙◌, append_assoc, append-nil}
use Rattle.fsb_signal.specs.declared.marks.Marks.{Marks}
use Rattle.vcd_grammar.specs.Tokens.{tokens_so_far, tokens_from, open_run, ended_at}
use Rattle.vcd_way.specs.Declarations.{Declaration}
use Rattle.vcd_way.specs.Ways.{ValueRules, Way}
use Rattle.vcd_way.specs.Answers.{first_fault_by, early_end_by, events_by}
use Rattle.vcd_way.specs.Events.{DumpEvent, samples_among}
use Rattle.scope_watch.specs.declared.values.Ended.{Ended}
use Rattle.scope_watch.specs.Limit.{IsLimit}
use Rattle.vcd_scan.specs.Ending.{early_told}
use Rattle.scope_ring.specs.Ring.{Stands as RingStands}
use Rattle.vcd_way.proofs.Interface.{tokens_longer}
use Rattle.scope_check.specs.Bounds.{most_counted}
use Rattle.scope_parts.specs.declared.plan.Plan.{Plan}
use Rattle.scope_parts.specs.Findings.{IsJudgedInParts, first_clock}
use Rattle.scope_wiring.specs.declared.wiring.Choice.{Choice}
use Rattle.scope_wiring.specs.declared.wiring.Wiring.{Wiring}
use Rattle.scope_way.specs.Wired.{wired_way}
use Rattle.scope_watch.specs.declared.header.Header.{Header}
use Rattle.scope_watch.specs.declared.header.Begun.{Begun}
use Rattle.scope_watch.specs.declared.check.JudgedText.{JudgedText}
use Rattle.scope_watch.specs.declared.stop.ScopeStop.{ScopeStop}
use Rattle.scope_watch.specs.declared.stop.ScopeStop.TheVariants as stops
use Rattle.scope_watch.specs.declared.values.Sampling.{Sampling}
use Rattle.vcd_scan.specs.Wired.{wires_told}
use Rattle.vcd_joined.specs.Behind.{gathered_in}
use Rattle.vcd_joined.specs.Choosing.{IsTaken}
use Rattle.vcd_joined.specs.Picking.{picking}
use Rattle.scope_watch.specs.declared.bus.Bus.{Bus}
use Rattle.scope_watch.specs.Buses.{IsBus}
use Rattle.scope_watch.proofs.Picks.{taken}
use Rattle.scope_watch.specs.Heading.{IsInside, IsWhole, BeginsBy, IsHeaded}
use Rattle.scope_watch.specs.Watching.{rules_for, IsWatched}
use Rattle.scope_watch.specs.Checking.{IsJudgedAs, Declares, IsWiredBy, IsChecked, kept_to}

-- ---- the header of a text

pub declares-of : (m : ValueRules) (b : Begun) (text left : List ℕ) → BeginsBy m b text left → Declares m b.header text
declares-of m b text left h = by h.stands.place
  where
    by : IsInside b.behind h.tokens text left h.stands.head ⊎ IsWhole b.behind h.tokens text left h.stands.head
        → Declares m b.header text
    by (inl p) =
        let head = h.stands.head in
        let fed = b.behind.rest.items ++ left in
        let behind = tokens_from (length head) (open_run head) fed in
        let last = ended_at (length text) (open_run text) in
        record {
          tokens = h.tokens;
          more = behind ++ last;
          header = h.stands.header;
          first = ap (λ x. x ++ last) (ap tokens_so_far p.whole ∙ tokens_longer head fed
              ∙ ap (λ x. x ++ behind) (sym p.tokens)) ∙ append_assoc h.tokens behind last;
          shows = h.shows;
          is_dump = h.is_dump;
        }
    by (inr p) = record {
      tokens = h.tokens;
      more = [];
      header = h.stands.header;
      first = sym p.tokens ∙ sym (append-nil h.tokens);
      shows = h.shows;
      is_dump = h.is_dump;
    }

-- ---- stops

-- what a reading that stopped so answers
abbrev pub watched : ScopeStop → Result Ended ScopeStop
watched stop = Err stop

pub judged-stop : (stop : ScopeStop) (seen : List DumpEvent → Type 0) (plan : Plan) (marks : Marks)
    (way : Way (List Declaration)) (text : List ℕ) → (watched stop ≡ watched stops.WriteFault → ⊥)
    → IsWatched (Err stop) seen most_counted way text → IsJudgedAs (Err stop) plan marks way text
judged-stop (stops.Bad fault) seen plan marks way text never h = h
judged-stop stops.ReadFault seen plan marks way text never h = tt
judged-stop stops.NoHeader seen plan marks way text never h = h
judged-stop stops.TooLong seen plan marks way text never h = h
judged-stop stops.TooMany seen plan marks way text never h = h
judged-stop stops.WriteFault seen plan marks way text never h = never refl
judged-stop stops.Memory seen plan marks way text never h = tt

-- what a judge tells at the end of a text
pub judged-told : (answer : Result JudgedText ScopeStop) (plan : Plan) (marks : Marks) (way : Way (List Declaration))
    (text : List ℕ) (ended : Ended) → first_fault_by way text ≡ None
    → option_map early_told ended.early_end ≡ early_end_by way text → IsLimit way text ended.limit
    → IfOk answer (λ told. IsJudgedInParts told.judged plan marks (events_by way text)
    × (told.early_end ≡ ended.early_end) × (told.limit ≡ ended.limit)
    × RingStands told.last (kept_to (first_clock told.judged.faults.items) (samples_among (events_by way text))))
    → IfErr answer (λ stop. stop ≡ stops.TooMany) → IfErr answer (λ _. most_counted ≤ length (events_by way text))
    → IsJudgedAs answer plan marks way text
judged-told (Ok told) plan marks way text ended none end limit h e many = record {
  none = none;
  found = h.0;
  early_end = ap (option_map early_told) h.1 ∙ end;
  limit = subst (λ x. IsLimit way text x) (sym h.2) limit;
  last = h.3;
}
judged-told (Err stop) plan marks way text ended none end limit h e many =
    subst (λ x. IsJudgedAs (Err x) plan marks way text) (sym e) many

pub not-read : (answer : Result JudgedText ScopeStop) → IfErr answer (λ stop. stop ≡ stops.TooMany)
    → answer ≡ Err stops.ReadFault → ⊥
not-read (Ok told) h e = cc
not-read (Err stop) h e = cc

pub checked-header : (stop : ScopeStop) (choice : Choice) (plan : Plan) (s : Sampling) (text left : List ℕ)
    → IsHeaded (Err stop) text left → IsChecked (Err stop) choice plan s text
checked-header (stops.Bad fault) choice plan s text left h = inl h
checked-header stops.ReadFault choice plan s text left h = tt
checked-header stops.NoHeader choice plan s text left h = h
checked-header stops.TooLong choice plan s text left h = h
checked-header stops.TooMany choice plan s text left h = absurd h
checked-header stops.WriteFault choice plan s text left h = h
checked-header stops.Memory choice plan s text left h = tt

pub checked-values : (stop : ScopeStop) (choice : Choice) (plan : Plan) (s : Sampling) (h : Header) (w : Wiring)
    (marks : Marks) (text : List ℕ) → IsWiredBy choice s h w text
    → IsJudgedAs (Err stop) plan marks (wired_way w.wires.items (rules_for s)) text → IsChecked (Err stop) choice plan s text
checked-values (stops.Bad fault) choice plan s h w marks text wired e =
    inr (record { header = h; wiring = w; wired = wired; fault_is = e })
checked-values stops.ReadFault choice plan s h w marks text wired e = tt
checked-values stops.NoHeader choice plan s h w marks text wired e = absurd e
checked-values stops.TooLong choice plan s h w marks text wired e = (e, wired.declares.is_dump)
checked-values stops.TooMany choice plan s h w marks text wired e =
    record { header = h; wiring = w; wired = wired; many = e }
checked-values stops.WriteFault choice plan s h w marks text wired e = e
checked-values stops.Memory choice plan s h w marks text wired e = tt

-- ---- the wires

pub wired-by : (choice : Choice) (s : Sampling) (b : Begun) (text left : List ℕ) (bus : Bus)
    → BeginsBy (rules_for s) b text left → IsBus b.header.variables.items choice bus
    → IsWiredBy choice s b.header bus.wiring text
wired-by choice s b text left bus h k = record {
  declares = declares-of (rules_for s) b text left h;
  picked = k.picked;
}

pub taken-by : (choice : Choice) (s : Sampling) (b : Begun) (text left : List ℕ) (bus : Bus)
    → (h : BeginsBy (rules_for s) b text left) → IsBus b.header.variables.items choice bus
    → IsTaken (picking (λ all. bus.wiring.wires.items)) (gathered_in (rules_for s) h.tokens).header (wires_told bus.wires)
taken-by choice s b text left bus h k =
    taken bus.wiring.wires.items b.header.variables.items (gathered_in (rules_for s) h.tokens).header bus.wires k.wires
    h.shows.variables

-- the same with the marks and the way of the wires
pub judged-by : (answer : Result JudgedText ScopeStop) (plan : Plan) (marks known : Marks) (way wired : Way (List Declaration))
    (text : List ℕ) → marks ≡ known → wired ≡ way → IsJudgedAs answer plan marks way text
    → IsJudgedAs answer plan known wired text
judged-by answer plan marks known way wired text e f h =
    subst (λ x. IsJudgedAs answer plan x wired text) e (subst (λ x. IsJudgedAs answer plan marks x text) (sym f) h)
