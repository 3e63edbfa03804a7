-- How the replay of a log goes on by more entries.
use Rattle.std.proofs.Common.{◌≡◌, ℕ, List, [], ◌∷◌, ◌++◌, map, refl, sym, ◌∙◌, ap}
use Rattle.std.proofs.lemmas.List.{map-append}
use Rattle.fsb_access.specs.Replay.{ReplayState, start_of, served_value, served_state, replay, replayed_values, Served}
use Rattle.fsb_access.specs.declared.access.Setting.{Setting}
use Rattle.fsb_access.specs.declared.log.Done.{Done}

-- its values are those of the shorter one and then those from where that ended
pub replayed_values-append :
    (state : ReplayState) (log more : List Done) →
    replayed_values state (log ++ more) ≡ replayed_values state log ++ replayed_values (replay state log) more
replayed_values-append state [] more = refl
replayed_values-append state (done ∷ log) more =
    ap (λ values. served_value state done.agent done.access ∷ values)
    (replayed_values-append (served_state state done.agent done.access) log more)

-- the empty log is served
pub Served-empty : (settings : List Setting) → Served settings []
Served-empty settings = refl

-- a served log, and entries that are served from where it ended
pub Served-append :
    (settings : List Setting) (log more : List Done) → Served settings log →
    map (λ done. done.value) more ≡ replayed_values (replay (start_of settings) log) more
    → Served settings (log ++ more)
Served-append settings log more served values =
    map-append (λ (done : Done). done.value) log more
    ∙ rw (served, values) (sym (replayed_values-append (start_of settings) log more))

-- a served log, and one more entry with the value that it finds
pub Served-push :
    (settings : List Setting) (log : List Done) (done : Done) → Served settings log →
    done.value ≡ served_value (replay (start_of settings) log) done.agent done.access
    → Served settings (log ++ done ∷ [])
Served-push settings log done served value =
    Served-append settings log (done ∷ []) served (ap (λ (number : ℕ). number ∷ []) value)

-- the front of a log that is served is served
pub Served-front : (settings : List Setting) (log more : List Done) → Served settings (log ++ more)
    → Served settings log
Served-front settings log more served = front (start_of settings) log served
  where
    front : (state : ReplayState) (log : List Done)
        → map (λ done. done.value) (log ++ more) ≡ replayed_values state (log ++ more)
        → map (λ done. done.value) log ≡ replayed_values state log
    front state [] values = refl
    front state (done ∷ log) values =
        let value : done.value ≡ served_value state done.agent done.access = cc in
        let rest : map (λ (d : Done). d.value) (log ++ more)
        ≡ replayed_values (served_state state done.agent done.access) (log ++ more) = cc in
        let ahead = front (served_state state done.agent done.access) log rest in
        cc
