-- What the files hold that show a broken rule.
use Rattle.std.proofs.Common.{◌≡◌, ◌∙◌, ℕ, ◌≤◌, List, [], ◌++◌, Option, Some, None, Result, Ok, Err, IfErr, IsTrue, OnOk, arith, ap, refl, sym, subst, inl, inr, ◌⊎◌}
use Rattle.std.specs.Result.{is_err}
use Rattle.std.specs.Prelude.{false}
use Rattle.fsb_io.specs.Faults.{Rose, one_more}
use Rattle.scope_check.specs.declared.part.Part.{Part}
use Rattle.scope_copy.specs.Copying.{IsCopied}
use Rattle.scope_copy.specs.declared.copy.Copied.{Copied}
use Rattle.scope_watch.specs.declared.stop.ScopeStop.{ScopeStop}
use Rattle.scope_watch.specs.declared.stop.ScopeStop.TheVariants as scopes
use Rattle.scope_watch.specs.declared.values.Sampling.{Sampling}
use Rattle.scope_wiring.specs.declared.wiring.Choice.{Choice}
use Rattle.scope_top.specs.declared.stop.ViewStop.{ViewStop}
use Rattle.scope_top.specs.declared.stop.ViewStop.TheVariants as stops
use Rattle.scope_watch.specs.declared.check.Finding.{Finding}
use Rattle.scope_watch.specs.declared.check.Finding.TheVariants as findings
use Rattle.scope_watch.specs.declared.header.Header.{Header}
use Rattle.scope_watch.specs.Watching.{rules_for}
use Rattle.scope_wiring.specs.declared.wiring.Wiring.{Wiring}
use Rattle.scope_words.specs.declared.order.Views.{Views}
use Rattle.scope_top.specs.declared.broken.BrokenAt.{BrokenAt}
use Rattle.scope_top.specs.Viewing.{CutsAs, Files, IsUncopied, MayStop, SavesAs, ShowsBroken, ShowsFinding, first_broken, uncut}

-- a count that rose since a later one rose since an earlier one
pub rose-since : (before now after : ℕ) → before ≤ now → Rose now after → Rose before after
rose-since before now after h r = omega (arith, h, r)

-- a count that rose and never falls
pub rose-until : (before now after : ℕ) → now ≤ after → Rose before now → Rose before after
rose-until before now after h r = omega (arith, h, r)

-- why a copy that stopped so leaves the cut unwritten
pub uncut-stop : (dump save cut : Type 0) (tells held : Type 0) (dumped : List ℕ) (choice : Choice) (part : Part) (s : Sampling)
    (old new : List ℕ) (stop : ScopeStop) → (stop ≡ scopes.ReadFault → dump) → (stop ≡ scopes.WriteFault → cut)
    → (tells → held → IsCopied (Err stop) choice part s dumped old new)
    → MayStop dump save cut (tells → held → IsUncopied dumped) (uncut stop)
uncut-stop dump save cut tells held dumped choice part s old new (scopes.Bad fault) read write copied = λ t h. record {
  choice = choice;
  part = part;
  s = s;
  old = old;
  new = new;
  stop = scopes.Bad fault;
  is_copied = copied t h;
  of_text = tt;
}
uncut-stop dump save cut tells held dumped choice part s old new scopes.NoHeader read write copied = λ t h. record {
  choice = choice;
  part = part;
  s = s;
  old = old;
  new = new;
  stop = scopes.NoHeader;
  is_copied = copied t h;
  of_text = tt;
}
uncut-stop dump save cut tells held dumped choice part s old new scopes.TooLong read write copied = λ t h. record {
  choice = choice;
  part = part;
  s = s;
  old = old;
  new = new;
  stop = scopes.TooLong;
  is_copied = copied t h;
  of_text = tt;
}
uncut-stop dump save cut tells held dumped choice part s old new scopes.TooMany read write copied = λ t h. record {
  choice = choice;
  part = part;
  s = s;
  old = old;
  new = new;
  stop = scopes.TooMany;
  is_copied = copied t h;
  of_text = tt;
}
uncut-stop dump save cut tells held dumped choice part s old new scopes.ReadFault read write copied = read refl
uncut-stop dump save cut tells held dumped choice part s old new scopes.WriteFault read write copied = write refl
uncut-stop dump save cut tells held dumped choice part s old new scopes.Memory read write copied = tt

-- what may stop one part of it may stop the whole
pub may-stop : (d e s t c b u v : Type 0) (stop : ViewStop) → (d → e) → (s → t) → (c → b) → (u → v) → MayStop d s c u stop → MayStop e t b v stop
may-stop d e s t c b u v stops.Memory f g h k m = tt
may-stop d e s t c b u v stops.Dump f g h k m = f m
may-stop d e s t c b u v stops.Save f g h k m = g m
may-stop d e s t c b u v stops.Cut f g h k m = h m
may-stop d e s t c b u v stops.Changed f g h k m = k m

-- what holds where it is answered so holds where it is no error
pub ok-shown : {T E P : Type 0} (r : Result T E) → OnOk r P → is_err r ≡ false → P
ok-shown (Ok t) p h = p
ok-shown (Err e) p h = (cc)

-- an error that has one fact has another that follows from it
pub err-weaker : {T E : Type 0} (P Q : E → Type 0) (r : Result T E) → ((e : E) → P e → Q e) → IfErr r P → IfErr r Q
err-weaker P Q (Ok t) f h = tt
err-weaker P Q (Err e) f h = f e h

-- ---- what is shown by one sampling is shown by another that reads in the same way

module _ (choice : Choice) (s t : Sampling) (dumped : List ℕ) (same : rules_for s ≡ rules_for t) where
  saves-same : {F : Type 0} (file : Option F) (name : List ℕ) (h : Header) (w : Wiring) (b : BrokenAt) (old new : List ℕ)
      → SavesAs file choice s dumped name h w b old new → SavesAs file choice t dumped name h w b old new
  saves-same None name h w b old new k = k
  saves-same (Some file) name h w b old new k = record {
    before = k.before;
    again = k.again;
    same = k.same ∙ same;
    is_before = k.is_before;
    text = k.text;
  }

  cuts-same : {F : Type 0} (file : Option F) (b : BrokenAt) (old new : List ℕ)
      → CutsAs file choice s dumped b old new → CutsAs file choice t dumped b old new
  cuts-same None b old new k = k
  cuts-same (Some file) b old new k = record { again = k.again; same = k.same ∙ same; cut = k.cut }

  broken-same : (views : Views) (name : List ℕ) (h : Header) (w : Wiring) (o : Option BrokenAt) (f : Files)
      → ShowsBroken views choice s dumped name h w o f → ShowsBroken views choice t dumped name h w o f
  broken-same views name h w None f k = k
  broken-same views name h w (Some b) f k = (
    saves-same views.save name h w b f.save_old f.save_new k.0,
    cuts-same views.cut b f.cut_old f.cut_new k.1,
  )

  pub shows-same : (views : Views) (name : List ℕ) (h : Header) (found : Finding) (f : Files)
      → ShowsFinding views choice s dumped name h found f → ShowsFinding views choice t dumped name h found f
  shows-same views name h (findings.Refused refusal) f k = k
  shows-same views name h (findings.Judged w told) f k =
      broken-same views name h w (first_broken told.judged.faults.items) f k
