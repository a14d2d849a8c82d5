-- What an entry says, apart from the holder that its context bytes lie in.
use Rattle.ids_types.specs.Names.{Carried, Absent, Kept, Missing, Act, Report, State, SetMode, Entry}

-- the same context in another holder
abbrev pub carried_by : {A B : Type 0} → (A → B) → Carried A → Carried B
carried_by f Absent = Absent
carried_by f (Kept class claim parcel) = Kept class claim (f parcel)
carried_by f (Missing numbers) = Missing numbers

-- the same act over another holder
abbrev pub act_by : {A B : Type 0} → (A → B) → Act A → Act B
act_by f (Report event count stamp context) = Report event count stamp (carried_by f context)
act_by f (State state) = State state
act_by f (SetMode event mode) = SetMode event mode

-- the same entry over another holder
abbrev pub entry_by : {A B : Type 0} → (A → B) → Entry A → Entry B
entry_by f e = record { caller = e.caller; call = e.call; act = act_by f e.act }
