-- All that the rules of ownership compute with, named once: a row that says `unfolding judging` computes with it.
use Rattle.std.proofs.Common.{Bool, true}
use Rattle.fsb_owners.specs.Joint.{state_at, is_same_state, is_same_joint, sharing, alone, unheld, every_joint}
use Rattle.fsb_owners.specs.Joint.{reached_by, has_other_owner, has_other_holder, is_after_stores, is_kept_or_dropped}
use Rattle.fsb_owners.specs.Joint.{is_after_drops, is_after_snoop_end}
use Rattle.fsb_owners.specs.Shown.{purpose_of, purpose_at, agent_at, names, asks, is_reply_of, origin_of}
use Rattle.fsb_owners.specs.Shown.{origin_clock_of, is_for_line, is_failure, is_spoiled, is_turned, brings_bytes}
use Rattle.fsb_owners.specs.Shown.{is_coming_by, is_coming, is_upgrading, may_drop_at, is_open_at, is_held_back}
use Rattle.fsb_owners.specs.Shown.{is_still_asking, snooped_at}
use Rattle.fsb_owners.specs.Possible.{may_ask, asking, after_begin, fits_answer, showing, settled_at_end, replied_to}
use Rattle.fsb_owners.specs.Possible.{left_by, made_by, by_request, at_snoop_end, after_answer, after_snoop_end}
use Rattle.fsb_owners.specs.Possible.{after_unseen, after_clock, possible, possible_begun, possible_shown}
use Rattle.fsb_owners.specs.Least.{least_at, is_some_broken, least_broken}
use Rattle.fsb_owners.specs.Rules.{of_request, at_decoding, is_write_back_purpose, is_begun_unfit, is_asked_twice}
use Rattle.fsb_owners.specs.Rules.{is_write_back_unfit, is_upgrade_unfit, is_asked_in_vain, is_answer_unfit}
use Rattle.fsb_owners.specs.Rules.{is_owned_elsewhere, of_answer, at_answer, is_of_write_back, is_owner_lacking}
use Rattle.fsb_owners.specs.Rules.{is_owner_silent, is_holder_silent, is_holder_lacking, is_written_when_lost}
use Rattle.fsb_owners.specs.Rules.{has_other_hit, is_hit_of_reply_wrong, is_answered_below, is_served_or_deferred}
use Rattle.fsb_owners.specs.Rules.{is_given_again_to, is_given_again, ownership_rules, is_ownership_broken}
use Rattle.fsb_owners.specs.Rules.{ownership_verdict}
use Rattle.rows_timely.proofs.Interface.{opened}

unfoldable pub judging : Bool
unfolding opened state_at is_same_state is_same_joint sharing alone unheld every_joint reached_by has_other_owner
    has_other_holder is_after_stores is_kept_or_dropped is_after_drops is_after_snoop_end purpose_of purpose_at
    agent_at names asks is_reply_of origin_of origin_clock_of is_for_line is_failure is_spoiled is_turned
    brings_bytes is_coming_by is_coming is_upgrading may_drop_at is_open_at is_held_back is_still_asking snooped_at
    may_ask asking after_begin fits_answer showing settled_at_end replied_to left_by made_by by_request at_snoop_end
    after_answer after_snoop_end after_unseen after_clock possible possible_begun possible_shown least_at
    is_some_broken least_broken of_request at_decoding is_write_back_purpose is_begun_unfit is_asked_twice
    is_write_back_unfit is_upgrade_unfit is_asked_in_vain is_answer_unfit is_owned_elsewhere of_answer at_answer
    is_of_write_back is_owner_lacking is_owner_silent is_holder_silent is_holder_lacking is_written_when_lost
    has_other_hit is_hit_of_reply_wrong is_answered_below is_served_or_deferred is_given_again_to is_given_again
    ownership_rules is_ownership_broken ownership_verdict
judging = true
