-- A manager that has just been made.
use Rattle.std.specs.Prelude.{◌≡◌, ℕ, ◌+◌, ◌≤◌, List, [], vec_capacity}
use Rattle.main_function.specs.Names.{IsMadeFor, Shared, Parts, Buffer, spec_sizes, Desk, Pass, Turn, desk_memo, IsNewMaking}
use Rattle.main_function.specs.Rests.{no_rests}
use Rattle.main_function.specs.Standing.{AreAllPasses, HasRoomFor, IsManagerOf, Stands, largest_size, rests_of}
use Rattle.main_function.specs.declared.manager.Manager.{Manager}

module _ {C L : Type 0} where
  -- the manager made no turn, and has room for one of all positions
  pub record IsBuilt (desk : Desk) (chain : C) (log : L) (positions events largest : ℕ) (m : Manager C L) : Type 0 where
    pub desk_is : m.desk ≡ desk
    pub chain_is : m.chain ≡ chain
    pub log_is : m.log ≡ log
    pub no_items : m.items.items ≡ []
    pub items_room : positions ≤ vec_capacity m.items
    pub no_back : m.back.items ≡ []
    pub back_room : positions + events ≤ vec_capacity m.back
    pub out_room : HasRoomFor largest positions events m.out
    pub no_rests : rests_of m ≡ no_rests
    pub totals_are : m.totals ≡ record { entries = 0; lost_events = 0; lost_contexts = 0 }
    pub sent_are : m.sent ≡ record { messages = 0; limited = 0 }
    pub head_is : m.head ≡ record { tick = 0; lost_events = 0; lost_contexts = 0; limited = 0 }
    pub taken_is : m.taken ≡ 0
    pub turns_are : m.turns ≡ 0
    pub positions_are : m.positions ≡ positions
    pub largest_is : m.largest ≡ largest

  -- nothing was reported or taken: the manager stands for no turns, and these are its passes
  pub record IsNewManager (stands : C → Parts → List Turn → Type 0) (events : C → ℕ) (kept : C → List Buffer)
      (config : Parts) (shared : Shared) (passes : List Pass) (m : Manager C L) : Type 0 where
    pub making : IsNewMaking config shared passes m.desk
    pub made_for : IsMadeFor config shared
    pub is_manager : IsManagerOf events kept shared m
    pub stands_for_none : Stands stands config m []
    pub passes_are : AreAllPasses shared (desk_memo m.desk) passes
    pub no_rests : rests_of m ≡ no_rests
    pub positions_are : m.positions ≡ config.ring
    pub largest_is : m.largest ≡ largest_size (spec_sizes config.classes)
