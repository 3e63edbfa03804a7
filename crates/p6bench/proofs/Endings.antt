-- What is left of a call once the end of the dump is handed on.
use Rattle.std.proofs.Common.{IsTrue, ◌≡◌, ◌≢◌, ◌≤◌, ◌⊎◌, ◌++◌, inl, inr, ⊎_elim, ℕ, List, [], Option, Some, None, refl, sym}
use Rattle.std.proofs.Common.{subst, ap, ◌∙◌, arith, Bool, false, is_some, true, Result, Ok}
use Rattle.std.specs.Prelude.{IfOk}
use Rattle.fsb_io.specs.declared.refusal.Memory.{Memory}
use Rattle.std.proofs.lemmas.List.{append-nil, append_assoc}
use Rattle.fsb_gather.specs.GatherView.{GatherView}
use Rattle.fsb_gather.specs.HandsOn.{HandsOn}
use Rattle.fsb_command.specs.Form.{Form, run, ask, gen}
use Rattle.fsb_hazard.specs.Told.{Told}
use Rattle.fsb_io.specs.declared.sink.Sink.{Ghosts as SinkGhosts}
use Rattle.fsb_io.specs.declared.source.Source.{Ghosts as SourceGhosts}
use Rattle.fsb_top.specs.Printed.{run_dump, run_log, run_summary}
use Rattle.fsb_script.specs.Made.{made_plan}
use Rattle.fsb_signal.specs.declared.sample.Sample.{Sample}
use Rattle.fsb_top.proofs.Statuses.{answer_as}
use Rattle.fsb_top.specs.CallEnds.{DumpCall, GenEnds, IsPlayed, LookEnds, RowEnds, RunEnds}
use Rattle.fsb_top.specs.Looks.{Answer, Look, look_at, status_of}
use Rattle.fsb_top.specs.FileRead.{IsStopped, bench_file}
use Rattle.fsb_top.specs.RunOf.{IsRunOf}
use Rattle.fsb_top.specs.Writing.{HasDump, HasDumpPart}
use Rattle.fsb_script.specs.Plans.{PlanView}
use Rattle.fsb_timely.specs.Runs.{Run}
use Rattle.fsb_io.specs.Faults.{Rose}
use Rattle.fsb_top.specs.BenchEnds.{HasRunFrom, HasRunOf, IsDumped, IsLogged, IsOfLook, MayEnd}
use Rattle.fsb_top.specs.declared.status.Status.{Status}
use Rattle.fsb_top.specs.declared.status.Status.TheVariants.{Done, Rejected, BadWords, BadBench, BadDump}
use Rattle.fsb_top.specs.declared.status.Status.TheVariants.{ReadFault, WriteFault, DumpFault, OutOfMemory}
use Rattle.fsb_top.specs.declared.status.Status.TheVariants.{TooLong, Foul, NotFound}
use Rattle.p6bench.specs.Program.{HasPartBelow, IsDumpedBelow, name_written}

-- the status stays as the call had it, or the call was done and the end of its dump was not handed on
abbrev pub Ends : Status → Status → Type 0
Ends called status = (status ≡ called) ⊎ ((called ≡ Done) × (status ≡ DumpFault))

is_done_or_not : (status : Status) → (status ≡ Done) ⊎ (status ≢ Done)
is_done_or_not Done = inl refl
is_done_or_not (Rejected broken) = inr (λ e. cc)
is_done_or_not BadWords = inr (λ e. cc)
is_done_or_not (BadBench fault) = inr (λ e. cc)
is_done_or_not (BadDump fault) = inr (λ e. cc)
is_done_or_not ReadFault = inr (λ e. cc)
is_done_or_not WriteFault = inr (λ e. cc)
is_done_or_not DumpFault = inr (λ e. cc)
is_done_or_not OutOfMemory = inr (λ e. cc)
is_done_or_not TooLong = inr (λ e. cc)
is_done_or_not (Foul foul) = inr (λ e. cc)
is_done_or_not NotFound = inr (λ e. cc)

pub ends_of : (called status : Status) → (called ≢ Done → status ≡ called)
    → (called ≡ Done → status ≢ Done → status ≡ DumpFault) → Ends called status
ends_of called status others fault =
    ⊎_elim
    (λ was. ⊎_elim (λ is. inl (is ∙ sym was)) (λ not. inr (was, fault was not)) (is_done_or_not status))
    (λ not. inl (others not)) (is_done_or_not called)

logged_still : (called status : Status) (text before held : List ℕ) → Ends called status
    → IsLogged called text before held → IsLogged status text before held
logged_still called status text before held (inl same) has =
    subst (λ (s : Status). IsLogged s text before held) (sym same) has
logged_still called status text before held (inr lost) has =
    subst (λ (s : Status). IsLogged s text before held) (sym lost.1)
    (subst (λ (s : Status). IsLogged s text before held) lost.0 has)

was_done : (called status : Status) → Ends called status → status ≡ Done → called ≡ Done
was_done called status (inl same) done = sym same ∙ done
was_done called status (inr lost) done = lost.0

-- every other status than that of a dump that failed is the call's
was : (called status it : Status) → Ends called status → status ≡ it → (it ≡ DumpFault → ⊥) → called ≡ it
was called status it (inl same) is not = sym same ∙ is
was called status it (inr lost) is not = absurd (not (sym is ∙ lost.1))

stays : (called status : Status) → Ends called status → (called ≡ Done → ⊥) → status ≡ called
stays called status (inl same) not = same
stays called status (inr lost) not = absurd (not lost.0)

-- a count of the sink below that was 0 before the call rose in it where it rose at some time
rose_later : (before between now : ℕ) → before ≡ 0 → Rose between now → Rose before now
rose_later before between now none rose = omega (arith, none, rose)

rose_before : (before between now : ℕ) → Rose before between → between ≤ now → Rose before now
rose_before before between now rose later = omega (arith, rose, later)

not_both : (status : Status) → status ≡ DumpFault → status ≡ Done → ⊥
not_both status fault done = let e = sym done ∙ fault in let no : ⊥ = cc in no

-- a call that ends with the fault of the dump's sink has it of the call, or of the end of its dump
pub rose_in : (called status : Status) (before between now : ℕ) → Ends called status → before ≡ 0 → between ≤ now
    → (called ≡ DumpFault → Rose before between) → (called ≡ Done → status ≢ Done → Rose between now)
    → status ≡ DumpFault → Rose before now
rose_in called status before between now (inl same) none later rose handed fault =
    rose_before before between now (rose (sym same ∙ fault)) later
rose_in called status before between now (inr lost) none later rose handed fault =
    rose_later before between now none (handed lost.0 (not_both status fault))

-- a call that left the sink of the dump as it was, with nothing gathered, ends as it did
pub left_alone : (D : Type 0) (called status : Status) (old mid new : GatherView D) → mid ≡ old → old.gathered ≡ []
    → (mid.gathered ≡ [] → (status ≡ called) × (new ≡ mid)) → (status ≡ called) × (new ≡ old)
left_alone D called status old mid new same none nothing =
    let both = nothing (ap (λ (g : GatherView D). g.gathered) same ∙ none) in (both.0, both.1 ∙ same)

-- the dump of the sink below is that of the sink that gathered it, where the end was handed on
handed_on : (text : List ℕ) (name : Option (List ℕ)) (held held' : List ℕ) (begun_as begun_as' : Option (List ℕ))
    → held' ≡ held → begun_as' ≡ begun_as → HasDump text name held begun_as → HasDump text name held' begun_as'
handed_on text None held held' begun_as begun_as' whole named has = tt
handed_on text (Some name) held held' begun_as begun_as' whole named has =
    record { whole = whole ∙ has.whole; named = named ∙ has.named }

-- where the call failed at the dump, of what the gathering sink holds the sink below has the first part
part_below : (text : List ℕ) (name : Option (List ℕ)) (before held gathered : List ℕ)
    (was_begun_as begun_as : Option (List ℕ)) → (name ≡ None → ⊥)
    → HasDumpPart text name (before ++ []) was_begun_as (held ++ gathered) begun_as
    → HasPartBelow text name before was_begun_as held gathered begun_as
part_below text None before held gathered was_begun_as begun_as named has = named refl
part_below text (Some name) before held gathered was_begun_as begun_as named (inl has) =
    let part = has.part in
    inl (record {
      part = record {
        part = held;
        rest = gathered ++ part.rest;
        whole = part.whole ∙ ap (λ xs. xs ++ part.rest) (sym part.appended) ∙ append_assoc held gathered part.rest;
        appended = refl;
      };
      named = has.named;
    })
part_below text (Some name) before held gathered was_begun_as begun_as named (inr has) =
    inr (record { held_stays = has.held_stays ∙ append-nil before; name_stays = has.name_stays })

-- where the end of the dump was not handed on, the sink below has a first part of it, and the rest is still gathered
part_handed : (text : List ℕ) (name : Option (List ℕ)) (before mid_held gathered held left : List ℕ)
    (was mid_begun begun : Option (List ℕ)) → (name ≡ None → ⊥) → HandsOn gathered left mid_held held
    → begun ≡ mid_begun → HasDump text name (mid_held ++ gathered) mid_begun
    → HasPartBelow text name before was held left begun
part_handed text None before mid_held gathered held left was mid_begun begun named hands same has = named refl
part_handed text (Some name) before mid_held gathered held left was mid_begun begun named hands same has =
    inl (record {
      part = record {
        part = held;
        rest = left;
        whole = sym has.whole ∙ ap (λ xs. mid_held ++ xs) hands.whole ∙ sym (append_assoc mid_held hands.part left)
            ∙ ap (λ xs. xs ++ left) (sym hands.appended);
        appended = refl;
      };
      named = same ∙ has.named;
    })

dumped_by : (status : Status) (text : List ℕ) (name : Option (List ℕ)) (before : List ℕ) (was : Option (List ℕ))
    (held left : List ℕ) (begun : Option (List ℕ)) → (status ≡ Done → HasDump text name held begun)
    → (status ≡ DumpFault → HasPartBelow text name before was held left begun)
    → IsDumpedBelow status text name before was held left begun
dumped_by Done text name before was held left begun done fault = done refl
dumped_by DumpFault text name before was held left begun done fault = fault refl
dumped_by (Rejected broken) text name before was held left begun done fault = tt
dumped_by BadWords text name before was held left begun done fault = tt
dumped_by (BadBench first) text name before was held left begun done fault = tt
dumped_by (BadDump first) text name before was held left begun done fault = tt
dumped_by ReadFault text name before was held left begun done fault = tt
dumped_by WriteFault text name before was held left begun done fault = tt
dumped_by OutOfMemory text name before was held left begun done fault = tt
dumped_by TooLong text name before was held left begun done fault = tt
dumped_by (Foul foul) text name before was held left begun done fault = tt
dumped_by NotFound text name before was held left begun done fault = tt

-- a sink that was not called has what it had
part_stays : (text : List ℕ) (name : Option (List ℕ)) (before start mid_held gathered held left : List ℕ)
    (was mid_begun begun : Option (List ℕ)) → start ≡ [] → held ≡ mid_held → left ≡ gathered → begun ≡ mid_begun
    → HasDumpPart text name (before ++ start) was (mid_held ++ gathered) mid_begun
    → HasDumpPart text name (before ++ []) was (held ++ left) begun
part_stays text name before start mid_held gathered held left was mid_begun begun none same_held same_left same has =
    let at_start =
    subst (λ (xs : List ℕ). HasDumpPart text name (before ++ xs) was (mid_held ++ gathered) mid_begun) none has in
    let held_now =
    subst (λ (xs : List ℕ). HasDumpPart text name (before ++ []) was (xs ++ gathered) mid_begun) (sym same_held)
    at_start in
    let left_now =
    subst (λ (xs : List ℕ). HasDumpPart text name (before ++ []) was (held ++ xs) mid_begun) (sym same_left) held_now in
    subst (λ (b : Option (List ℕ)). HasDumpPart text name (before ++ []) was (held ++ left) b) (sym same) left_now

-- what is left of the dump below, by how the call ended and whether the end was handed on
pub dumped_below : (called status : Status) (text : List ℕ) (name : Option (List ℕ))
    (before start mid_held gathered held left : List ℕ) (was mid_begun begun : Option (List ℕ))
    → Ends called status → start ≡ [] → (status ≡ DumpFault → name ≡ None → ⊥)
    → (status ≡ Done → held ≡ mid_held ++ gathered) → HandsOn gathered left mid_held held → begun ≡ mid_begun
    → ((called ≡ Done → ⊥) → (held ≡ mid_held) × (left ≡ gathered))
    → IsDumped called text name (before ++ start) was (mid_held ++ gathered) mid_begun
    → IsDumpedBelow status text name before was held left begun
dumped_below called status text name before start mid_held gathered held left was mid_begun begun ends none named whole
    hands same stays has =
    let Has = λ (s : Status). IsDumped s text name (before ++ start) was (mid_held ++ gathered) mid_begun in
    let of_call : ((s : Status) → called ≡ s → Has s) = (λ s is. subst Has is has) in
    dumped_by status text name before was held left begun
    (λ done. handed_on text name (mid_held ++ gathered) held mid_begun begun (whole done) same
    (of_call Done (was_done called status ends done)))
    (λ fault. ⊎_elim
    (λ is.
    let failed = sym is ∙ fault in
    let as_left = stays (not_both called failed) in
    part_below text name before held left was begun (named fault)
    (part_stays text name before start mid_held gathered held left was mid_begun begun none as_left.0 as_left.1 same
    (of_call DumpFault failed)))
    (λ lost. part_handed text name before mid_held gathered held left was mid_begun begun (named fault) hands same
    (of_call Done lost.0)) ends)

run_of_on : (told told' : List (Option Told)) (plan : PlanView) (Leaves Leaves' : Run → Type 0)
    → HasRunOf told plan Leaves → told ≡ told' → ((r : Run) → Leaves r → Leaves' r) → HasRunOf told' plan Leaves'
run_of_on told told' plan Leaves Leaves' has same leaves = record {
  run = has.run;
  is_run = subst (λ (t : List (Option Told)). IsRunOf t plan has.run) same has.is_run;
  leaves = leaves has.run has.leaves;
}

run_from_on : (IsPlan : PlanView → Type 0) (told told' : PlanView → List (Option Told))
    (Leaves Leaves' : Run → Type 0) → HasRunFrom IsPlan told Leaves → ((plan : PlanView) → told plan ≡ told' plan)
    → ((r : Run) → Leaves r → Leaves' r) → HasRunFrom IsPlan told' Leaves'
run_from_on IsPlan told told' Leaves Leaves' has same leaves = record {
  plan = has.plan;
  is_plan = has.is_plan;
  ran = run_of_on (told has.plan) (told' has.plan) has.plan Leaves Leaves' has.ran (same has.plan) leaves;
}

-- ---- the row of a command, over the sink below

-- the sink that gathers, before and after a call
abbrev pub dump_gathered : {D : Type 0} → SinkGhosts D → GatherView D → GatherView D → DumpCall
dump_gathered sink was now = record {
  Stays = now ≡ was;
  Fails = Rose (sink.faults was.sink) (sink.faults now.sink);
  Has = λ status text name. IsTrue sink.tells → IsDumped status text name
      (sink.holds was.sink ++ was.gathered) (sink.begun_as was.sink)
      (sink.holds now.sink ++ now.gathered) (sink.begun_as now.sink);
}

module _ {S O : Type 0} (source : SourceGhosts S) (out : SinkGhosts O) (up down : DumpCall) (was now : S)
    (before after : O) (told below : PlanView → List (Option Told)) (called status : Status) (ends : Ends called status)
    (still : up.Stays → (status ≡ called) × down.Stays)
    (fails : (called ≡ DumpFault → up.Fails) → status ≡ DumpFault → down.Fails)
    (has : (text : List ℕ) (name : Option (List ℕ)) → (status ≡ DumpFault → name ≡ None → ⊥)
    → up.Has called text name → down.Has status text name)
    (same_told : (plan : PlanView) → told plan ≡ below plan) where
  abbrev PrintFails : Type 0
  PrintFails = Rose (out.faults before) (out.faults after)

  -- where the sink of the dump failed, the words name a dump
  faulty_named : (name : Option (List ℕ)) → (name ≡ None → up.Stays) → IsPlayed PrintFails up name called
      → status ≡ DumpFault → name ≡ None → ⊥
  faulty_named name unnamed played fault none =
      let is = sym (still (unnamed none)).0 ∙ fault in
      let it : IsPlayed PrintFails up name DumpFault =
      subst (λ (s : Status). IsPlayed PrintFails up name s) is played in it.1 none

  played_same : (name : Option (List ℕ)) (s : Status) → called ≡ s → status ≡ s → IsPlayed PrintFails up name s
      → IsPlayed PrintFails down name s
  played_same name Done was is played = tt
  played_same name WriteFault was is played = (played.0, (still played.1).1)
  played_same name DumpFault was is played = (fails (λ e. played.0) is, played.1)
  played_same name (Rejected broken) was is played = played
  played_same name BadWords was is played = played
  played_same name (BadBench fault) was is played = played
  played_same name (BadDump fault) was is played = played
  played_same name ReadFault was is played = played
  played_same name OutOfMemory was is played = played
  played_same name TooLong was is played = played
  played_same name (Foul foul) was is played = played
  played_same name NotFound was is played = played

  played_below : (name : Option (List ℕ)) → (name ≡ None → up.Stays) → Ends called status
      → IsPlayed PrintFails up name called → IsPlayed PrintFails down name status
  played_below name unnamed (inl same) played =
      subst (λ (s : Status). IsPlayed PrintFails down name s) (sym same)
      (played_same name called refl same played)
  played_below name unnamed (inr lost) played =
      subst (λ (s : Status). IsPlayed PrintFails down name s) (sym lost.1) (
        fails (λ fault. absurd (not_both called fault lost.0)) lost.1,
        λ none. faulty_named name unnamed played lost.1 none,
      )

  look_below : (weights : List (Sample → ℕ)) (name : List ℕ) (look : Look)
      → up.Stays × LookEnds source out was now before after weights name look called
      → down.Stays × LookEnds source out was now before after weights name look status
  look_below weights name look row =
      let s = still row.0 in
      (s.1, subst (λ (it : Status). LookEnds source out was now before after weights name look it) (sym s.0) row.1)

  made_below : (seed agents items : ℕ) → GenEnds out up before after told seed agents items called
      → GenEnds out down before after below seed agents items status
  made_below seed agents items (stays, inl lacks) =
      let s = still stays in (s.1, inl (s.0 ∙ lacks.0, lacks.1))
  made_below seed agents items (stays, inr played) =
      let plan = made_plan seed agents items in
      let s = still stays in (
        s.1,
        inr (
          played_below None (λ none. stays) ends played.0,
          run_of_on (told plan) (below plan) plan _ _ played.1 (same_told plan)
              (λ r leaves tells. logged_still called status (run_summary seed agents items r) (out.holds before)
              (out.holds after) ends (leaves tells)),
        ),
      )

  ran_below : (bench : List ℕ) (name : Option (List ℕ))
      → RunEnds source out up was now before after told bench name called
      → RunEnds source out down was now before after below bench name status
  ran_below bench name (unnamed, inl stopped) =
      let s = still stopped.1.1 in (
        λ none. s.1,
        inl (
          subst (λ (it : Status). IsStopped source bench_file bench was now it) (sym s.0) stopped.0,
          (stopped.1.0, s.1),
        ),
      )
  ran_below bench name (unnamed, inr played) = (
    λ none. (still (unnamed none)).1,
    inr (
      played_below name unnamed ends played.0,
      run_from_on _ told below _ _ played.1 same_told
          (λ r leaves. (
            λ tells. logged_still called status (run_log r) (out.holds before) (out.holds after) ends
                (leaves.0 tells),
            has (run_dump r) name (faulty_named name unnamed played.0) leaves.1,
          )),
    ),
  )

  pub row_below : (weights same : List (Sample → ℕ)) (form : Form) → weights ≡ same
      → RowEnds source out up was now before after told weights form called
      → RowEnds source out down was now before after below same form status
  row_below weights same (run bench name) e row = ran_below bench name row
  row_below weights same (ask name asked) e row =
      subst (λ (w : List (Sample → ℕ)). RowEnds source out down was now before after below w (ask name asked) status) e
      (look_below weights name (look_at asked) row)
  row_below weights same (gen seed agents items) e row = (row.0, made_below seed agents items row.1)

-- no answer is that the words have no form
no_answer : (answer : Answer) → status_of answer ≢ BadWords
no_answer = answer_as (λ s. s ≢ BadWords) (λ e. cc) (λ b e. cc) (λ f e. cc) (λ e. cc)

no_look : (look : Look) → IsOfLook look BadWords → ⊥
no_look look (inl stop) = stop
no_look look (inr found) = no_answer (look.answer found.0) (sym found.1)

-- no command ends as words of no form do
has_form : (form : Form) → MayEnd (Some form) BadWords → ⊥
has_form (run bench None) ends = ends.0
has_form (run bench (Some dump)) ends = ends
has_form (ask dump asked) ends = no_look (look_at asked) ends
has_form (gen seed agents items) ends = ends

-- a call that writes a dump may end with a fault of it
may_fault : (form : Form) → is_some (name_written form) ≡ true → MayEnd (Some form) DumpFault
may_fault (run bench None) e = let no : ⊥ = cc in absurd no
may_fault (run bench (Some dump)) e = tt
may_fault (ask dump asked) e = let no : ⊥ = cc in absurd no
may_fault (gen seed agents items) e = let no : ⊥ = cc in absurd no

-- a call whose dump was stored, or refused, ends as one of its form may
pub may_end_kept : (form : Form) (called status : Status) (named : Bool) → named ≡ is_some (name_written form)
    → (named ≡ false → status ≡ called) → Ends called status → MayEnd (Some form) called
    → MayEnd (Some form) status
may_end_kept form called status named is unnamed (inl same) may =
    subst (λ (s : Status). MayEnd (Some form) s) (sym same) may
may_end_kept form called status false is unnamed (inr lost) may =
    subst (λ (s : Status). MayEnd (Some form) s) (sym (unnamed refl)) may
may_end_kept form called status true is unnamed (inr lost) may =
    subst (λ (s : Status). MayEnd (Some form) s) (sym lost.1) (may_fault form (sym is))

-- how a call with words of a form ends
pub may_end_words : (words : Option Form) (form : Form) (result : Result Status Memory) → words ≡ Some form
    → IfOk result (λ status. MayEnd (Some form) status) → IfOk result (λ status. MayEnd words status)
may_end_words words form result e may =
    subst (λ (w : Option Form). IfOk result (λ status. MayEnd w status)) (sym e) may

pub no_words_of_form : (words : Option Form) (form : Form) (result : Result Status Memory)
    → IfOk result (λ status. MayEnd (Some form) status) → result ≡ Ok BadWords → words ≡ None
no_words_of_form words form result may e =
    let ends : MayEnd (Some form) BadWords =
    subst (λ (r : Result Status Memory). IfOk r (λ status. MayEnd (Some form) status)) e may in
    absurd (has_form form ends)
