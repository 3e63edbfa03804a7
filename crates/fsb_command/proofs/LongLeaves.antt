-- What `clap` finds in the plain words behind the verbs with three arguments.
use Rattle.std.proofs.Common.{◌≡◌, ◌∙◌, List, [], ◌∷◌, codes, refl, ap}
use Rattle.clap.specs.Walk.{Text, Walk, finished, nothing_held, rows_after, walk, walk_from, walked}
use Rattle.clap.specs.Simple.{Shape}
use Rattle.clap.specs.Faults.{defaults_fault, walk_fault}
use Rattle.fsb_command.specs.Usage.{needed}
use Rattle.fsb_command.proofs.Turns.{IsPlain, fault_at, placed, turned}
use Rattle.fsb_command.proofs.Leaves.{ended, fault_behind, found, lacking, leaf, past, stray}

-- ---- a dump and two clocks

module _ (name : Text) where
  abbrev pub drawn : Shape
  drawn = leaf name (needed (codes "dump") ∷ needed (codes "from") ∷ needed (codes "to") ∷ [])

  pub drawn_of_none : fault_behind drawn [] ≡ lacking
  unfolding walk_fault defaults_fault
  drawn_of_none = refl

  module _ (a : Text) (is_a : IsPlain a) where
    abbrev drawn_1 : Walk
    drawn_1 = placed drawn.rules nothing_held 1 a

    drawn_walk : walk drawn.rules [] nothing_held (a ∷ []) ≡ drawn_1
    drawn_walk = turned drawn.rules nothing_held 1 a is_a

    pub drawn_of_one : fault_behind drawn (a ∷ []) ≡ lacking
    unfolding walk_fault defaults_fault
    drawn_of_one = ended drawn (a ∷ []) [] drawn_1 (fault_at drawn nothing_held 1 a [] is_a) drawn_walk

    module _ (b : Text) (is_b : IsPlain b) where
      abbrev drawn_2 : Walk
      drawn_2 = placed drawn.rules drawn_1.held 2 b

      drawn_walks : walk drawn.rules [] nothing_held (a ∷ b ∷ []) ≡ drawn_2
      drawn_walks = ap (λ w. walked drawn.rules [] w b) drawn_walk ∙ turned drawn.rules drawn_1.held 2 b is_b

      drawn_turns : (rest : List Text) → walk_fault drawn [] (walk_from nothing_held)
          (a ∷ b ∷ rest) ≡ walk_fault drawn [] drawn_2 rest
      drawn_turns rest = fault_at drawn nothing_held 1 a (b ∷ rest) is_a ∙ fault_at drawn drawn_1.held 2 b rest is_b

      pub drawn_of_two : fault_behind drawn (a ∷ b ∷ []) ≡ lacking
      unfolding walk_fault defaults_fault
      drawn_of_two = ended drawn (a ∷ b ∷ []) [] drawn_2 (drawn_turns []) drawn_walks

      module _ (c : Text) (is_c : IsPlain c) where
        abbrev drawn_3 : Walk
        drawn_3 = placed drawn.rules drawn_2.held 3 c

        drawn_walks_on : walk drawn.rules [] nothing_held (a ∷ b ∷ c ∷ []) ≡ drawn_3
        drawn_walks_on = ap (λ w. walked drawn.rules [] w c) drawn_walks ∙ turned drawn.rules drawn_2.held 3 c is_c

        drawn_turns_on : (rest : List Text) → walk_fault drawn [] (walk_from nothing_held)
            (a ∷ b ∷ c ∷ rest) ≡ walk_fault drawn [] drawn_3 rest
        drawn_turns_on rest = drawn_turns (c ∷ rest) ∙ fault_at drawn drawn_2.held 3 c rest is_c

        pub drawn_of_three : fault_behind drawn (a ∷ b ∷ c ∷ []) ≡ []
        unfolding walk_fault defaults_fault
        drawn_of_three = ended drawn (a ∷ b ∷ c ∷ []) [] drawn_3 (drawn_turns_on []) drawn_walks_on

        pub drawn_rows : rows_after drawn.rules [] (a ∷ b ∷ c ∷ []) ≡ found (codes "dump") a ∷ found
            (codes "from") b ∷ found (codes "to") c ∷ []
        drawn_rows = ap (λ w. finished drawn.rules w.held) drawn_walks_on

        pub drawn_of_more : (d : Text) (is_d : IsPlain d) (rest : List Text)
            → fault_behind drawn (a ∷ b ∷ c ∷ d ∷ rest) ≡ stray
        drawn_of_more d is_d rest =
            past drawn (a ∷ b ∷ c ∷ d ∷ rest) _ _ (drawn_turns_on (d ∷ rest)
            ∙ fault_at drawn drawn_3.held 4 d rest is_d)

-- ---- a seed, a number of agents and one of items

module _ (name : Text) where
  abbrev pub made : Shape
  made = leaf name (needed (codes "seed") ∷ needed (codes "agents") ∷ needed (codes "items") ∷ [])

  pub made_of_none : fault_behind made [] ≡ lacking
  unfolding walk_fault defaults_fault
  made_of_none = refl

  module _ (a : Text) (is_a : IsPlain a) where
    abbrev made_1 : Walk
    made_1 = placed made.rules nothing_held 1 a

    made_walk : walk made.rules [] nothing_held (a ∷ []) ≡ made_1
    made_walk = turned made.rules nothing_held 1 a is_a

    pub made_of_one : fault_behind made (a ∷ []) ≡ lacking
    unfolding walk_fault defaults_fault
    made_of_one = ended made (a ∷ []) [] made_1 (fault_at made nothing_held 1 a [] is_a) made_walk

    module _ (b : Text) (is_b : IsPlain b) where
      abbrev made_2 : Walk
      made_2 = placed made.rules made_1.held 2 b

      made_walks : walk made.rules [] nothing_held (a ∷ b ∷ []) ≡ made_2
      made_walks = ap (λ w. walked made.rules [] w b) made_walk ∙ turned made.rules made_1.held 2 b is_b

      made_turns : (rest : List Text) → walk_fault made [] (walk_from nothing_held)
          (a ∷ b ∷ rest) ≡ walk_fault made [] made_2 rest
      made_turns rest = fault_at made nothing_held 1 a (b ∷ rest) is_a ∙ fault_at made made_1.held 2 b rest is_b

      pub made_of_two : fault_behind made (a ∷ b ∷ []) ≡ lacking
      unfolding walk_fault defaults_fault
      made_of_two = ended made (a ∷ b ∷ []) [] made_2 (made_turns []) made_walks

      module _ (c : Text) (is_c : IsPlain c) where
        abbrev made_3 : Walk
        made_3 = placed made.rules made_2.held 3 c

        made_walks_on : walk made.rules [] nothing_held (a ∷ b ∷ c ∷ []) ≡ made_3
        made_walks_on = ap (λ w. walked made.rules [] w c) made_walks ∙ turned made.rules made_2.held 3 c is_c

        made_turns_on : (rest : List Text) → walk_fault made [] (walk_from nothing_held)
            (a ∷ b ∷ c ∷ rest) ≡ walk_fault made [] made_3 rest
        made_turns_on rest = made_turns (c ∷ rest) ∙ fault_at made made_2.held 3 c rest is_c

        pub made_of_three : fault_behind made (a ∷ b ∷ c ∷ []) ≡ []
        unfolding walk_fault defaults_fault
        made_of_three = ended made (a ∷ b ∷ c ∷ []) [] made_3 (made_turns_on []) made_walks_on

        pub made_rows : rows_after made.rules [] (a ∷ b ∷ c ∷ []) ≡ found (codes "seed") a ∷ found
            (codes "agents") b ∷ found (codes "items") c ∷ []
        made_rows = ap (λ w. finished made.rules w.held) made_walks_on

        pub made_of_more : (d : Text) (is_d : IsPlain d) (rest : List Text)
            → fault_behind made (a ∷ b ∷ c ∷ d ∷ rest) ≡ stray
        made_of_more d is_d rest =
            past made (a ∷ b ∷ c ∷ d ∷ rest) _ _ (made_turns_on (d ∷ rest) ∙ fault_at made made_3.held 4 d rest is_d)
