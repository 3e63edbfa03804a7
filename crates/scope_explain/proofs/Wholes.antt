-- What is explained of a dump, from what was read of it.
use Rattle.std.proofs.Common.{◌≡◌, ℕ, inl, inr, List, [], ◌∷◌, ◌++◌, Option, Result, Err, refl, sym, subst, append-nil}
use Rattle.fsb_signal.specs.declared.marks.Marks.{Marks}
use Rattle.fsb_signal.specs.declared.sample.Sample.{Sample}
use Rattle.vcd_way.specs.Declarations.{Declaration}
use Rattle.vcd_way.specs.Ways.{Way}
use Rattle.vcd_way.specs.Events.{DumpEvent}
use Rattle.scope_check.specs.declared.part.Part.{Part}
use Rattle.scope_check.specs.declared.parting.Parting.{Parting}
use Rattle.scope_check.specs.Bounds.{most_counted}
use Rattle.scope_check.specs.Parting.{HasParted}
use Rattle.scope_wiring.specs.declared.wiring.Choice.{Choice}
use Rattle.scope_wiring.specs.declared.wiring.Wiring.{Wiring}
use Rattle.scope_way.specs.Wired.{wired_way}
use Rattle.scope_watch.specs.declared.header.Header.{Header}
use Rattle.scope_watch.specs.declared.stop.ScopeStop.{ScopeStop}
use Rattle.scope_watch.specs.declared.stop.ScopeStop.TheVariants as stops
use Rattle.scope_watch.specs.declared.values.Ended.{Ended}
use Rattle.scope_watch.specs.declared.values.Sampling.{Sampling}
use Rattle.scope_watch.specs.Checking.{IsWiredBy}
use Rattle.scope_watch.specs.Heading.{IsHeaded}
use Rattle.scope_watch.specs.Watching.{rules_for, IsRead, IsWatched}
use Rattle.scope_explain.specs.declared.explained.Explained.{Explained}
use Rattle.scope_explain.specs.declared.explainer.Explainer.{Explainer}
use Rattle.scope_explain.specs.Explained.{IsExplainedBy}
use Rattle.scope_explain.specs.Standing.{HasExplained, Stands}
use Rattle.scope_explain.specs.Explanations.{IsFound, IsFoundAs, IsExplainedAs}

-- ---- the watcher

-- before the first event
pub none-seen : (first : Explainer) (p : Part) (m : Marks) → first.part ≡ p → first.marks ≡ m
    → HasParted first.parting p [] [] → Stands first.explaining m [] → HasExplained first first []
none-seen first p m e f parted stands = record {
  samples = [];
  parted = subst (λ q. HasParted first.parting q [] []) (sym e) parted;
  stands = subst (λ n. Stands first.explaining n []) (sym f) stands;
}

-- an event that is no clock of the part
pub none-more : (first old : Explainer) (es : List DumpEvent) (e : DumpEvent) (g : Parting)
    → (s : HasExplained first old es) → HasParted g first.part (es ++ e ∷ []) (s.samples ++ [])
    → HasExplained first (record old { parting = g }) (es ++ e ∷ [])
none-more first old es e g s parted = record {
  samples = s.samples;
  parted = subst (λ (w : List Sample). HasParted g first.part (es ++ e ∷ []) w) (append-nil s.samples) parted;
  stands = s.stands;
}

-- ---- the text

-- a watcher that stops does so for want of memory or of numbers
abbrev pub watched : ScopeStop → Result Ended ScopeStop
watched stop = Err stop

pub found-stop : (stop : ScopeStop) (seen : List DumpEvent → Type 0) (p : Part) (m : Marks)
    (way : Way (List Declaration)) (text : List ℕ) → (watched stop ≡ watched stops.WriteFault → ⊥)
    → IsWatched (Err stop) seen most_counted way text → IsFoundAs (Err stop) p m way text
found-stop (stops.Bad fault) seen p m way text never h = h
found-stop stops.ReadFault seen p m way text never h = tt
found-stop stops.NoHeader seen p m way text never h = h
found-stop stops.TooLong seen p m way text never h = h
found-stop stops.TooMany seen p m way text never h = h
found-stop stops.WriteFault seen p m way text never h = never refl
found-stop stops.Memory seen p m way text never h = tt

-- what a watcher tells at the end of a text
pub found-whole : (first last : Explainer) (ended : Ended) (found : Option Explained) (p : Part) (m : Marks)
    (way : Way (List Declaration)) (text : List ℕ) → first.part ≡ p → first.marks ≡ m
    → IsRead ended (λ es. HasExplained first last es) way text
    → ((n : Marks) (w : List Sample) → Stands last.explaining n w → IsExplainedBy found n w)
    → IsFound found p m way text
found-whole first last ended found p m way text e f r told =
    let here : IsFound found first.part first.marks way text = record {
      none = r.none;
      before = r.shown.parted.before;
      part = r.shown.parted.part;
      behind = r.shown.parted.behind;
      parted = r.shown.parted.parted;
      explained = subst (λ w. IsExplainedBy found first.marks w) r.shown.parted.samples_are
          (told first.marks r.shown.samples r.shown.stands);
    } in
    subst (λ q. IsFound found q m way text) e (subst (λ n. IsFound found first.part n way text) f here)

-- ---- the whole

pub explained-header : (stop : ScopeStop) (choice : Choice) (p : Part) (s : Sampling) (text left : List ℕ)
    → IsHeaded (Err stop) text left → IsExplainedAs (Err stop) choice p s text
explained-header (stops.Bad fault) choice p s text left h = inl h
explained-header stops.ReadFault choice p s text left h = tt
explained-header stops.NoHeader choice p s text left h = h
explained-header stops.TooLong choice p s text left h = h
explained-header stops.TooMany choice p s text left h = absurd h
explained-header stops.WriteFault choice p s text left h = h
explained-header stops.Memory choice p s text left h = tt

pub explained-values : (stop : ScopeStop) (choice : Choice) (p : Part) (s : Sampling) (h : Header) (w : Wiring)
    (m : Marks) (text : List ℕ) → IsWiredBy choice s h w text
    → IsFoundAs (Err stop) p m (wired_way w.wires.items (rules_for s)) text → IsExplainedAs (Err stop) choice p s text
explained-values (stops.Bad fault) choice p s h w m text wired e =
    inr (record { header = h; wiring = w; wired = wired; fault_is = e })
explained-values stops.ReadFault choice p s h w m text wired e = tt
explained-values stops.NoHeader choice p s h w m text wired e = absurd e
explained-values stops.TooLong choice p s h w m text wired e = (e, wired.declares.is_dump)
explained-values stops.TooMany choice p s h w m text wired e =
    record { header = h; wiring = w; wired = wired; many = e }
explained-values stops.WriteFault choice p s h w m text wired e = e
explained-values stops.Memory choice p s h w m text wired e = tt

-- the same with the marks and the way of the wires
pub found-by : (answer : Result (Option Explained) ScopeStop) (p : Part) (m known : Marks)
    (way wired : Way (List Declaration)) (text : List ℕ) → m ≡ known → wired ≡ way → IsFoundAs answer p m way text
    → IsFoundAs answer p known wired text
found-by answer p m known way wired text e f h =
    subst (λ x. IsFoundAs answer p x wired text) e (subst (λ x. IsFoundAs answer p m x text) (sym f) h)
