use Rattle.std.proofs.Common.{◌≡◌, ◌≤◌, ap, arith, get_or}
use Rattle.std.specs.Prelude.{slice_index}
use Rattle.fsb_access.specs.FlatView.{FlatView, memory_of_chunks}
use Rattle.fsb_access.specs.Replay.{put_of}
use Rattle.fsb_access.proofs.Chunks.{put_bytes-low, place-within, state_of-put}
use Rattle.fsb_access.proofs.flat.Flat.store.Goals as goal

pub returns-clause-moves : goal.returns-clause-moves
returns-clause-moves c =
    let memory = memory_of_chunks c.args.self.now.chunks in
    let few : c.args.size ≤ 8 = omega (arith, place-within c.args.size c.args.addr c.requires.place) in
    let loaded : get_or c.self.inside.last c.from.result 0 ≡ slice_index c.args.self.now.last c.args.agent =
    rw (c.from.ensures) (ap (λ (view : FlatView). slice_index view.last c.args.agent) c.self.view_is) in
    let number : c.number_put-number.result ≡ put_of c.args.size (slice_index c.args.self.now.last c.args.agent)
    c.args.value.now =
    rw loaded at c.number_put-number.ensures in
    let bytes = put_bytes-low memory c.args.addr c.args.size c.number_put-number.result c.to_le_bytes.result
    c.to_le_bytes.ensures few in
    let put = rw (c.from-2.ensures, bytes, number) at c.in_ok-put.ensures.put in
    state_of-put c.args.self.now c.put.new.self _ put c.in_ok-put.ensures.last
