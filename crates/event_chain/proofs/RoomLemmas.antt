-- A parcel that was kept and is handed out, in a message.
use Rattle.event_chain.proofs.Names.{◌≡◌, ℕ, ◌+◌, ◌≤◌, List, [], length, Option, Some, None, IfSome, option_map, option_to_list, arith, All, All-permutation, IsShort, Accounts, carried_room, most_message, All-head}

module _ {B : Type 0} (held : B → List ℕ) where
  -- a message takes no more than its parcel does with it
  pub message_room : (context : Option B) → most_message (option_map held context) ≡ 16 + carried_room held (option_to_list context)
  message_room context = grind arith

  -- and it is as short as those that were kept
  pub given_short : (context : Option B) (kept now : List B) → Accounts [] kept (option_to_list context) now → All (IsShort held) kept
      → IfSome (option_map held context) (λ bytes. length bytes ≤ 1024)
  given_short None kept now same all = tt
  given_short (Some parcel) kept now same all = All-head (IsShort held) parcel now (All-permutation (IsShort held) _ _ same all)
