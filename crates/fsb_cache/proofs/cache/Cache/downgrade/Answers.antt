use Rattle.std.proofs.Common.{◌≡◌, ◌%◌, None, Some, get_or, length, sym, ◌∙◌, ap, set}
use Rattle.fsb_line.specs.declared.state.Mesi.TheVariants.{Shared}
use Rattle.fsb_cache.specs.declared.held.Held.{Held}
use Rattle.fsb_cache.specs.Sets.{states, copies}
use Rattle.fsb_cache.proofs.SetMaps.{SetPut, copies-held, has_not, is_this, only_this-has, put-same, set_put, set_read}
use Rattle.fsb_cache.proofs.cache.Cache.downgrade.Goals as goal
use Rattle.fsb_cache.proofs.cache.Cache.downgrade.Goals.{in-Some, in_default}

-- what the line's set has
read : (c : goal.Joined-index_mut)
    → get_or c.args.self.now (c.args.line % length c.args.self.now) None ≡ c.index_mut.result.now
read c =
    set_read c.self.inside.sets.items c.args.self.now c.args.line c.place-place.result c.index_mut.result.now
    c.self.view_is c.place-place.ensures.place
    c.place-place.ensures.within c.index_mut.ensures.value

-- and has then
shared : (c : goal.Joined-index_mut) (held : Held) → c.index_mut.result.now ≡ Some held
    → SetPut c.args.self.now (set c.self.inside.sets.items c.place-place.result
    (Some (record held { state = Shared }))) c.args.line (Some (record held { state = Shared }))
shared c held e =
    let only = only_this-has c.args.self.now c.args.line c.requires in
    let line : held.line ≡ c.args.line = only held (read c ∙ e) in
    set_put c.self.inside.sets.items c.args.self.now c.args.line c.place-place.result
    (Some (record held { state = Shared })) c.self.view_is c.place-place.ensures.place
    c.place-place.ensures.within only (is_this c.args.line (record held { state = Shared }) line)

pub returns-clause-states : goal.returns-clause-states
returns-clause-states c =
    elim c.match-index_mut.branch [
      | in-Some w ↦ ap (λ q. states q.sets.items) w.self-inside-is ∙ (shared c w.in-Some.held w.in-Some.is).states
      | in_default w ↦ absurd (has_not c.args.self.now c.args.line c.requires (read c ∙ w.in_default.is))
    ]

pub returns-clause-copies : goal.returns-clause-copies
returns-clause-copies c =
    elim c.match-index_mut.branch [
      | in-Some w ↦
          let held = w.in-Some.held in
          let line : held.line ≡ c.args.line =
          only_this-has c.args.self.now c.args.line c.requires held (read c ∙ w.in-Some.is) in
          ap (λ q. copies q.sets.items) w.self-inside-is ∙ (shared c held w.in-Some.is).copies
          ∙ sym (put-same (copies c.args.self.now) c.args.line held.bytes
          (copies-held c.args.self.now c.args.line held (read c ∙ w.in-Some.is) line))
      | in_default w ↦ absurd (has_not c.args.self.now c.args.line c.requires (read c ∙ w.in_default.is))
    ]
