-- The explained journal: each line of a journal, with what became of its item, and the accounts of the events.
-- Source: the text formats of this project (docs/FORMATS.md).
use Rattle.std.specs.Prelude.{◌≡◌, ℕ, ◌==◌, ◌++◌, ◌∷◌, Bool, true, false, List, [], codes, decimal, filter, flat_map, length, map, Option, Some, None, reverse, option_to_list, if◌then◌else◌}
use Rattle.ids_types.specs.{Turn, entries_of}
use Rattle.ids_types.specs.declared.entry.Act.{Act}
use Rattle.ids_types.specs.declared.entry.Act.TheVariants.{Report}
use Rattle.ids_types.specs.declared.entry.Carried.TheVariants.{Missing}
use Rattle.ids_types.specs.declared.entry.Entry.{Entry}
use Rattle.ids_config.specs.Parts.{Parts, event_at, internal_of}
use Rattle.chain_spec.specs.{account_of, all_steps, ended_at, events_in, fate_name, Ending, by_window, ending_at, is_stored, heads_of, Moment, act_moment, closings, head_moment, moments, with_all}
use Rattle.chain_spec.specs.declared.account.Account.{Account}
use Rattle.text_spec.specs.{Told, begins, enters, loses, line_for, absent, space, text_of}

-- a word after a space
abbrev pub field : List ℕ → List ℕ
field word = space ∷ word

-- ---- what became of an item

-- the word for whether an item is stored
abbrev pub stored_word : Bool → List ℕ
stored_word true = codes "stored"
stored_word false = absent

-- ` FATE STORED`
abbrev pub fate_fields : Parts → Ending → List ℕ
fate_fields config ending = field (fate_name ending.fate) ++ field (stored_word (is_stored config ending))

-- the same where something ended
abbrev pub ended_fields : Parts → Option Ending → List ℕ
ended_fields config None = []
ended_fields config (Some ending) = fate_fields config ending

-- ---- the lines of a turn

-- `W` for what a window gave, and `I` for an internal event
abbrev pub letter_of : Ending → List ℕ
letter_of ending = if by_window ending then codes "W" else codes "I"

-- `W EVENT COUNT FATE STORED` and `I EVENT COUNT FATE STORED`
abbrev pub given_line : Parts → Ending → List ℕ
given_line config ending =
    letter_of ending ++ field (decimal ending.item.event) ++ field (decimal ending.item.count) ++ fate_fields config ending

-- the lines of entries after these moments: those of the journal, and after a report what became of it
abbrev pub entry_lines : Parts → ℕ → List Moment → List (Entry (List ℕ)) → List (List ℕ)
entry_lines config tick before [] = []
entry_lines config tick before (entry ∷ entries) =
    let moment = act_moment tick entry.act in
    (line_for (enters entry) ++ ended_fields config (ending_at config before moment))
    ∷ entry_lines config tick (moment ∷ before) entries

-- the endings at moments that come one after another, after these
abbrev pub endings_along : Parts → List Moment → List Moment → List Ending
endings_along config before [] = []
endings_along config before (moment ∷ rest) =
    option_to_list (ending_at config before moment) ++ endings_along config (moment ∷ before) rest

-- the moments of a turn before its entries: windows close, and the internal events come
abbrev pub opening : Parts → Turn → List Moment
opening config turn =
    closings config turn.head.tick ++ map (head_moment turn.head.tick) (heads_of (internal_of config) turn.head)

-- the lines of a turn after these moments
abbrev pub turn_lines : Parts → List Moment → Turn → List (List ℕ)
turn_lines config before turn =
    line_for (begins turn.head)
    ∷ (map (given_line config) (endings_along config before (opening config turn))
    ++ entry_lines config turn.head.tick (with_all before (opening config turn)) turn.entries)

-- the lines of turns, each after those before it, the first of them first
abbrev pub turns_lines : Parts → List Turn → List Turn → List (List ℕ)
turns_lines config before [] = []
turns_lines config before (turn ∷ turns) =
    turn_lines config (moments config before) turn ++ turns_lines config (turn ∷ before) turns

-- ---- the accounts

-- the act is a report of this event that lost its context data
abbrev pub is_missing : ℕ → Act (List ℕ) → Bool
is_missing event (Report other count stamp (Missing numbers)) = other.0 == event
is_missing event _ = false

-- how many reports of an event lost their context data
abbrev pub missing_of : ℕ → List Turn → ℕ
missing_of event turns = length (filter (λ entry. is_missing event entry.act) (entries_of turns))

-- a text with a piece more
pub record Pushes (old piece new : List ℕ) : Type 0 where
  pub is : new ≡ old ++ piece

-- a name and its number
abbrev pub named : List ℕ → ℕ → List ℕ
named name number = field name ++ field (decimal number)

-- how many ended at each step
abbrev pub step_fields : Account → List ℕ
step_fields account = flat_map (λ step. named (fate_name step) (ended_at step account)) all_steps

-- the numbers of an account, and how many context data are missing
abbrev pub account_fields : Account → ℕ → List ℕ
account_fields account missing =
    named (codes "came") account.came ++ named (codes "closed") account.closed
    ++ step_fields account
    ++ named (codes "open") account.waiting ++ named (codes "stored") account.stored ++ named (codes "missing") missing

-- `A EVENT ID SENSOR`, and the account of the event
abbrev pub account_line : Parts → List Turn → ℕ → List ℕ
account_line config turns event =
    let own = event_at config event in
    (codes "A" ++ field (decimal event) ++ field (decimal own.id) ++ field (decimal own.sensor))
    ++ account_fields (account_of config event (moments config (reverse turns))) (missing_of event turns)

-- ---- the text

-- the text: the turns with what became of each item, the losses, and an account for each event
abbrev pub explained_text : Parts → Told → List ℕ
explained_text config told = text_of (
    turns_lines config [] told.turns ++ map (λ loss. line_for (loses loss)) told.losses
    ++ map (account_line config told.turns) (events_in config)
    )
