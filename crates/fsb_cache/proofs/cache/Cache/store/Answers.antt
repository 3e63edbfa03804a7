use Rattle.std.proofs.Common.{ℕ, ◌≡◌, ◌/◌, ◌%◌, List, None, Some, get_or, length, sym, ◌∙◌, ap, set}
use Rattle.fsb_line.specs.declared.state.Mesi.TheVariants.{Modified}
use Rattle.fsb_line.specs.Line.{put}
use Rattle.fsb_cache.specs.declared.held.Held.{Held}
use Rattle.fsb_cache.specs.LineValues.{line_with_value}
use Rattle.fsb_cache.specs.Sets.{Has, states, copies}
use Rattle.fsb_cache.proofs.SetMaps.{SetPut, copies-held, has_not, is_this, only_this-has, set_put, set_read}
use Rattle.fsb_cache.proofs.SetMaps.{sole_is_held}
use Rattle.fsb_cache.proofs.cache.Cache.store.Goals as goal
use Rattle.fsb_cache.proofs.cache.Cache.store.Goals.{in-Some, in_default}

-- what the line's set has
read : (c : goal.Joined-index_mut)
    → get_or c.args.self.now ((c.args.addr / 32) % length c.args.self.now) None ≡ c.index_mut.result.now
read c =
    set_read c.self.inside.sets.items c.args.self.now (c.args.addr / 32) c.place-place.result
    c.index_mut.result.now c.self.view_is c.place-place.ensures.place
    c.place-place.ensures.within c.index_mut.ensures.value

has : (c : goal.Joined-index_mut) → Has c.args.self.now (c.args.addr / 32)
has c = sole_is_held (states c.args.self.now (c.args.addr / 32)) c.requires.sole

-- and has then
stored : (c : goal.Joined-index_mut) (held : Held) (bytes : List ℕ) → c.index_mut.result.now ≡ Some held
    → SetPut c.args.self.now (set c.self.inside.sets.items c.place-place.result
    (Some (record held { state = Modified; bytes = bytes }))) (c.args.addr / 32)
    (Some (record held { state = Modified; bytes = bytes }))
stored c held bytes e =
    let line = c.args.addr / 32 in
    let only = only_this-has c.args.self.now line (has c) in
    set_put c.self.inside.sets.items c.args.self.now line c.place-place.result
    (Some (record held { state = Modified; bytes = bytes })) c.self.view_is c.place-place.ensures.place
    c.place-place.ensures.within only
    (is_this line (record held { state = Modified; bytes = bytes }) (only held (read c ∙ e)))

pub returns-clause-states : goal.returns-clause-states
returns-clause-states c =
    elim c.match-index_mut.branch [
      | in-Some w ↦ ap (λ q. states q.sets.items) w.self-inside-is
          ∙ (stored c w.in-Some.held w.put_value_in.new.bytes w.in-Some.is).states
      | in_default w ↦ absurd (has_not c.args.self.now (c.args.addr / 32) (has c) (read c ∙ w.in_default.is))
    ]

pub returns-clause-copies : goal.returns-clause-copies
returns-clause-copies c =
    let line = c.args.addr / 32 in
    let now = c.args.self.now in
    elim c.match-index_mut.branch [
      | in-Some w ↦
          let held = w.in-Some.held in
          let is : held.line ≡ line = only_this-has now line (has c) held (read c ∙ w.in-Some.is) in
          let bytes : w.put_value_in.new.bytes ≡ line_with_value (copies now line) c.args.addr c.args.size
          c.args.value =
          w.put_value_in.ensures
          ∙ ap (λ bytes. line_with_value bytes c.args.addr c.args.size c.args.value)
          (sym (copies-held now line held (read c ∙ w.in-Some.is) is)) in
          ap (λ q. copies q.sets.items) w.self-inside-is
          ∙ (stored c held w.put_value_in.new.bytes w.in-Some.is).copies ∙ ap (put (copies now) line) bytes
      | in_default w ↦ absurd (has_not now line (has c) (read c ∙ w.in_default.is))
    ]
