use Rattle.std.proofs.Common.{refl}
use Rattle.fsb_access.specs.ByteMemory.{bytes_at, put_value}
use Rattle.fsb_cache.specs.Sets.{held_at, states, copies}
use Rattle.fsb_count.specs.Clocks.{first_where}
use Rattle.fsb_timely.specs.Scripts.{first_chunk, is_idle, is_load, is_locked, needs_after, needs_from, needs_of}
use Rattle.fsb_timely.specs.Scripts.{plain_items, plain_need, window_from}
use Rattle.fsb_timely.specs.Wants.{id_of, request_of_kind, write_back_of}
use Rattle.fsb_trace.specs.Requests.{is_upgrade_kind}
use Rattle.fsb_agent_view.proofs.laws.handed_over_store.Goals as goal

pub returns-clause-want : goal.returns-clause-want
unfolding bytes_at put_value held_at states copies first_where first_chunk is_idle is_load is_locked needs_after
    needs_from needs_of plain_items plain_need window_from id_of request_of_kind write_back_of is_upgrade_kind
returns-clause-want c = refl

pub returns-clause-entries : goal.returns-clause-entries
unfolding bytes_at put_value held_at states copies first_where first_chunk is_idle is_load is_locked needs_after
    needs_from needs_of plain_items plain_need window_from id_of request_of_kind write_back_of is_upgrade_kind
returns-clause-entries c = refl

pub returns-clause-gone : goal.returns-clause-gone
unfolding bytes_at put_value held_at states copies first_where first_chunk is_idle is_load is_locked needs_after
    needs_from needs_of plain_items plain_need window_from id_of request_of_kind write_back_of is_upgrade_kind
returns-clause-gone c = refl

pub returns-clause-owed : goal.returns-clause-owed
unfolding bytes_at put_value held_at states copies first_where first_chunk is_idle is_load is_locked needs_after
    needs_from needs_of plain_items plain_need window_from id_of request_of_kind write_back_of is_upgrade_kind
returns-clause-owed c = refl
