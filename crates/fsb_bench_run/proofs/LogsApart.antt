-- What the moment of a clock has, and what arrivals bring there, rests on the moments, and not on the log.
use Rattle.fsb_bench_run.proofs.Words
use Words.{ℕ, ◌≡◌, List, refl, Done, Choice, PlanView, Trace, brings_at, is_brought, is_there, begun_at, ended_requests}
use Words.{grant_at, has_arrived, holds_line, is_end_at, is_ended, is_evicted, is_exclusive, is_granted, is_lost}
use Words.{is_named_by_other, is_rival, is_taken_away, is_written_back, latest_grant, set_of, snooped_at, is_met}
use Words.{begun_with, gives_line, grant_of, is_unsnooped, moment_at, owing_at, owing_for, snoop_at, snoop_end_for}
use Words.{snoop_end_if_begun, snoop_end_with, wins_race, Moment, Need, outstanding_at, owed}

pub moment-same : (plan : PlanView) (moments : List Moment) (old new : List Done) (choices : List Choice)
    (w : Trace) (c : ℕ)
    → moment_at (record { plan = plan; moments = moments; log = old }) choices w c
    ≡ moment_at (record { plan = plan; moments = moments; log = new }) choices w c
unfolding moment_at begun_with owing_for owed outstanding_at snoop_at snoop_end_if_begun snoop_end_for snoop_end_with
    grant_of gives_line wins_race holds_line is_granted grant_at snooped_at is_lost is_evicted begun_at is_rival
    set_of is_written_back is_taken_away owing_at is_unsnooped
moment-same plan moments old new choices w c = refl

-- whether an end brings what is needed
pub brought-same : (plan : PlanView) (moments : List Moment) (old new : List Done) (a c : ℕ) (need : Need)
    → is_brought (record { plan = plan; moments = moments; log = old }) a c need
    ≡ is_brought (record { plan = plan; moments = moments; log = new }) a c need
unfolding is_brought brings_at is_granted grant_at snooped_at is_end_at ended_requests
brought-same plan moments old new a c need = refl

-- whether another line is there
pub there-same : (plan : PlanView) (moments : List Moment) (old new : List Done) (a c : ℕ) (need : Need)
    → is_there (record { plan = plan; moments = moments; log = old }) a c need
    ≡ is_there (record { plan = plan; moments = moments; log = new }) a c need
unfolding is_there is_met holds_line is_exclusive latest_grant is_named_by_other has_arrived is_ended is_granted
    grant_at snooped_at is_lost is_evicted begun_at is_rival set_of is_written_back is_taken_away is_end_at
    ended_requests
there-same plan moments old new a c need = refl
