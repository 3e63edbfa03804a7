-- What is copied of a dump, from what was read of it.
use Rattle.std.proofs.Common.{◌≡◌, ◌∙◌, ℕ, ◌≤◌, ◌^◌, ◌++◌, inl, inr, List, [], ◌∷◌, Bool, All, IsTrue, Some, Result, Err, length, option_map, append_assoc, sym, ap, subst, refl}
use Rattle.std.proofs.lemmas.List.Elements.{All-nil, All-cons, All-head, All-tail, All-same}
use Rattle.fsb_signal.specs.declared.sample.Sample.{Sample}
use Rattle.vcd_way.specs.Declarations.{Declaration}
use Rattle.vcd_way.specs.Ways.{ValueRules, Way}
use Rattle.vcd_way.specs.Events.{DumpEvent, Sampled, Hole, Resumed, samples_among}
use Rattle.vcd_way.specs.Answers.{first_fault_by, events_by}
use Rattle.scope_watch.specs.declared.values.Ended.{Ended}
use Rattle.vcd_scan.specs.Ending.{early_told}
use Rattle.scope_wiring.specs.declared.wire.Wire.{Wire}
use Rattle.scope_wiring.specs.declared.wiring.Choice.{Choice}
use Rattle.scope_wiring.specs.declared.wiring.Wiring.{Wiring}
use Rattle.scope_way.specs.Wired.{wired_way, wired_lines, AreLawfulWires}
use Rattle.scope_way.proofs.Picked.{picked_are_lawful}
use Rattle.scope_check.specs.declared.part.Part.{Part}
use Rattle.scope_watch.specs.declared.stop.ScopeStop.{ScopeStop}
use Rattle.scope_watch.specs.declared.stop.ScopeStop.TheVariants as stops
use Rattle.scope_watch.specs.declared.header.Header.{Header}
use Rattle.scope_watch.specs.declared.values.Sampling.{Sampling}
use Rattle.scope_watch.specs.Heading.{IsHeaded}
use Rattle.scope_watch.specs.Watching.{rules_for, IsWatched, IsRead}
use Rattle.scope_watch.specs.Checking.{IsWiredBy}
use Rattle.scope_write.specs.Samples.{IsSilent}
use Rattle.scope_write.specs.Text.{shown_dump}
use Rattle.scope_silent.specs.Lines.{there_in}
use Rattle.scope_copy.specs.declared.copier.Copier.{Copier}
use Rattle.scope_copy.specs.declared.copy.CopiedText.{CopiedText}
use Rattle.scope_copy.specs.Standing.{HasCopied}
use Rattle.scope_copy.specs.Copying.{AreOfPart, IsPut, IsPutAs, IsCopiedText, IsCopied}

-- ---- samples of events

samples-of-both : (es ds : List DumpEvent) → samples_among (es ++ ds) ≡ samples_among es ++ samples_among ds
samples-of-both [] ds = refl
samples-of-both (Sampled s t ∷ es) ds = ap (λ x. s ∷ x) (samples-of-both es ds)
samples-of-both (Hole t ∷ es) ds = samples-of-both es ds
samples-of-both (Resumed t ∷ es) ds = samples-of-both es ds

-- what holds of all holds of the first ones, and of those in the middle
all-first : {X : Type 0} (P : X → Type 0) (b c : List X) → All P (b ++ c) → All P b
all-first P [] c h = All-nil P
all-first P (x ∷ b) c h = All-cons P x b (All-head P x (b ++ c) h) (all-first P b c (All-tail P x (b ++ c) h))

all-inside : {X : Type 0} (P : X → Type 0) (a b c : List X) → All P (a ++ (b ++ c)) → All P b
all-inside P [] b c h = all-first P b c h
all-inside P (x ∷ a) b c h = all-inside P a b c (All-tail P x (a ++ (b ++ c)) h)

-- what holds of each sample of events holds of those of their part
of-part-all : (P : Sample → Type 0) (p : Part) (events : List DumpEvent) (w : List Sample) → AreOfPart p events w
    → All P (samples_among events) → All P w
of-part-all P p events w o h =
    let whole : samples_among events ≡ samples_among o.before ++ (samples_among o.part ++ samples_among o.behind) =
    ap samples_among (o.parted.whole ∙ append_assoc o.before o.part o.behind)
    ∙ samples-of-both o.before (o.part ++ o.behind)
    ∙ ap (λ x. samples_among o.before ++ x) (samples-of-both o.part o.behind) in
    All-same P w (samples_among o.part) o.samples_are
    (all-inside P (samples_among o.before) (samples_among o.part) (samples_among o.behind)
    (subst (λ x. All P x) whole h))

-- ---- what is put

pub put-stop : (stop : ScopeStop) (seen : List DumpEvent → Type 0) (p : Part) (there : List Bool)
    (way : Way (List Declaration)) (text old new : List ℕ) → IsWatched (Err stop) seen (10 ^ 18) way text
    → IsPutAs (Err stop) p there way text old new
put-stop (stops.Bad fault) seen p there way text old new h = h
put-stop stops.ReadFault seen p there way text old new h = tt
put-stop stops.NoHeader seen p there way text old new h = h
put-stop stops.TooLong seen p there way text old new h = h
put-stop stops.TooMany seen p there way text old new h = h
put-stop stops.WriteFault seen p there way text old new h = tt
put-stop stops.Memory seen p there way text old new h = tt

-- an answer that is one stop is no other
abbrev pub answered : (X : Type 0) → ScopeStop → Result X ScopeStop
answered X stop = Err stop

pub same-stop : {X : Type 0} (a b : ScopeStop) → answered X a ≡ answered X b → a ≡ b
same-stop a b e = cc

module _ {D : Type 0} (tells : Bool) (holds : D → List ℕ) (faults : D → ℕ) where
  -- what a watcher that writes has put, where a whole text was read: its sink was this one with a header behind what it held
  pub put-whole : (first last : Copier D) (out mid end : D) (told : CopiedText) (ended : Ended) (p : Part)
      (there : List Bool) (way : Way (List Declaration)) (text : List ℕ) → first.part ≡ p → first.there ≡ there
      → first.sink.now ≡ mid → told.early_end ≡ ended.early_end
      → (r : IsRead ended (λ es. HasCopied tells holds faults first last es) way text)
      → told.clocks ≡ length r.shown.samples → (last.sink.ghost_name ≡ first.sink.ghost_name → end ≡ last.sink.now)
      → IsTrue tells → holds mid ≡ holds out ++ shown_dump there []
      → IsPut told p there way text (holds out) (holds end)
  put-whole first last out mid end told ended p there way text e f m same_end r clocks same t begun =
      let header : holds first.sink.now ≡ holds out ++ shown_dump first.there [] =
      ap holds m ∙ begun ∙ ap (λ x. holds out ++ shown_dump x []) (sym f) in
      let put : IsPut told first.part first.there way text (holds out) (holds end) = record {
        none = r.none;
        early_end = ap (λ x. option_map early_told x) same_end ∙ r.early_end;
        samples = r.shown.samples;
        of_part = record {
          before = r.shown.parted.before;
          part = r.shown.parted.part;
          behind = r.shown.parted.behind;
          parted = r.shown.parted.parted;
          samples_are = r.shown.parted.samples_are;
        };
        clocks = clocks;
        put = ap holds (same r.shown.same) ∙ r.shown.text t (holds out) header;
        within = r.shown.within;
        few = r.shown.few;
      } in
      subst (λ q. IsPut told q there way text (holds out) (holds end)) e
      (subst (λ x. IsPut told first.part x way text (holds out) (holds end)) f put)

-- ---- the whole

-- where each sample of the wires is silent, what was put reads back
pub copied-text : (told : CopiedText) (p : Part) (ws : List Wire) (m : ValueRules) (there : List Bool)
    (way : Way (List Declaration)) (text old new : List ℕ) → there ≡ there_in (wired_lines ws) → way ≡ wired_way ws m
    → All (IsSilent (there_in (wired_lines ws))) (samples_among (events_by (wired_way ws m) text))
    → IsPut told p there way text old new → IsCopiedText told p ws m text old new
copied-text told p ws m there way text old new e f silent put =
    let here : IsPut told p (there_in (wired_lines ws)) (wired_way ws m) text old new =
    subst (λ x. IsPut told p x (wired_way ws m) text old new) e (subst (λ x. IsPut told p there x text old new) f put) in
    record {
      put = here;
      shown = record {
        silent = of-part-all (IsSilent (there_in (wired_lines ws))) p (events_by (wired_way ws m) text) here.samples
            here.of_part silent;
        within = here.within;
        few = here.few;
      };
    }

-- picked wires fit the signal table
pub lawful-by : (choice : Choice) (s : Sampling) (h : Header) (w : Wiring) (text : List ℕ) → IsWiredBy choice s h w text
    → AreLawfulWires w.wires.items
lawful-by choice s h w text wired =
    subst (λ ws. AreLawfulWires ws) (sym wired.picked.2) (picked_are_lawful _ _ _ _ _)

-- the reading of a header has no fault of writing
pub no-write-fault : (stop : ScopeStop) (text left : List ℕ) → IsHeaded (Err stop) text left → stop ≡ stops.WriteFault → ⊥
no-write-fault stop text left h e = subst (λ x. IsHeaded (Err x) text left) e h

pub copied-header : (stop : ScopeStop) (choice : Choice) (p : Part) (s : Sampling) (text left old new : List ℕ)
    → IsHeaded (Err stop) text left → IsCopied (Err stop) choice p s text old new
copied-header (stops.Bad fault) choice p s text left old new h = inl h
copied-header stops.ReadFault choice p s text left old new h = tt
copied-header stops.NoHeader choice p s text left old new h = h
copied-header stops.TooLong choice p s text left old new h = h
copied-header stops.TooMany choice p s text left old new h = absurd h
copied-header stops.WriteFault choice p s text left old new h = tt
copied-header stops.Memory choice p s text left old new h = tt

pub copied-values : (stop : ScopeStop) (choice : Choice) (p : Part) (s : Sampling) (h : Header) (w : Wiring)
    (there : List Bool) (way : Way (List Declaration)) (text old new : List ℕ) → IsWiredBy choice s h w text
    → way ≡ wired_way w.wires.items (rules_for s) → IsPutAs (Err stop) p there way text old new
    → IsCopied (Err stop) choice p s text old new
copied-values (stops.Bad fault) choice p s h w there way text old new wired e f =
    inr (record {
      header = h;
      wiring = w;
      wired = wired;
      fault_is = subst (λ x. first_fault_by x text ≡ Some fault) e f;
    })
copied-values stops.ReadFault choice p s h w there way text old new wired e f = tt
copied-values stops.NoHeader choice p s h w there way text old new wired e f = absurd f
copied-values stops.TooLong choice p s h w there way text old new wired e f = (f, wired.declares.is_dump)
copied-values stops.TooMany choice p s h w there way text old new wired e f =
    record {
      header = h;
      wiring = w;
      wired = wired;
      many = subst (λ x. 10 ^ 18 ≤ length (events_by x text)) e f;
    }
copied-values stops.WriteFault choice p s h w there way text old new wired e f = tt
copied-values stops.Memory choice p s h w there way text old new wired e f = tt
