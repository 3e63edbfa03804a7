-- What a sample does to the lists of the queue.
use Rattle.std.specs.Prelude.{◌-◌, Bool, take, drop, List, ◌++◌, length, if◌then◌else◌, Option}
use Rattle.std.specs.Option.{option_to_list}
use Rattle.fsb_rules.specs.declared.live.LiveRequest.{LiveRequest}
use Rattle.fsb_rules.specs.declared.live.Snooped.{Snooped}

-- without the last one, if that is cancelled
unfoldable pub without_last : Bool → List LiveRequest → List LiveRequest
without_last cancelled xs = if cancelled then take (length xs - 1) xs else xs

-- the requests without their snoop end: the last one is cancelled, the first has its snoop end, and one is begun
unfoldable pub asking_after : List LiveRequest → Bool → Bool → Option LiveRequest → List LiveRequest
asking_after xs cancelled snooped begun =
    drop (if snooped then 1 else 0) (without_last cancelled xs) ++ option_to_list begun

-- the requests without their response: the first responds, and one has its snoop end
unfoldable pub waiting_after : List Snooped → Bool → Option Snooped → List Snooped
waiting_after xs answered snooped = drop (if answered then 1 else 0) xs ++ option_to_list snooped
