-- How much room context data take in messages.
use Rattle.filter_chain.proofs.Names.{ℕ, ◌+◌, ◌*◌, ◌≤◌, List, length, IfSome, arith, All, All-weaker, Entry, IsShort, all_parcels, parcel_of, FitsAct, FitsLargest, FitsTurn, carried_room, context_room, most_sent}
use Rattle.std.proofs.Math.Nat.{mul-add, mul_comm, mul-le-mul_left}
use Rattle.std.proofs.lemmas.List.Sums.{sum_by-le}
use Rattle.ids_types.specs.declared.entry.Act.{Act}
use Rattle.ids_types.specs.declared.entry.Act.TheVariants.{Report}
use Rattle.filter_chain.proofs.ParcelLemmas.{all_parcels_of}

-- a turn of more entries has no less room
pub most_grows : (largest few many events : ℕ) → few ≤ many → most_sent largest few events ≤ most_sent largest many events
most_grows largest few many events le =
    let both : few + events ≤ many + events = omega (arith, le) in
    omega (arith, le, mul-le-mul_left (context_room largest) both)

module _ {B : Type 0} (held : B → List ℕ) where
  -- the parcels of entries and those of events take what a turn has room for
  pub carried_within : (largest entries events sent : ℕ) (came kept : List B) → All (FitsLargest held largest) came
      → All (FitsLargest held largest) kept → length came ≤ entries → length kept ≤ events → most_sent largest entries events ≤ sent
      → 16 * (entries + events + 3) + (carried_room held came + carried_room held kept) ≤ sent
  carried_within largest entries events sent came kept fit_came fit_kept few_came few_kept room =
      let each = context_room largest in
      let take = λ (parcel : B). 4 + length (held parcel) in
      let first = sum_by-le take each came fit_came in
      let second = sum_by-le take each kept fit_kept in
      let more_came = mul-le-mul_left each few_came in
      let more_kept = mul-le-mul_left each few_kept in
      let both = mul-add each entries events in
      omega (arith, first, second, more_came, more_kept, mul_comm (length came) each, mul_comm (length kept) each, both, room)

  -- the parcel that an act keeps is short
  pub parcel_short : (events : ℕ) (act : Act B) → FitsAct held events act → IfSome (parcel_of act) (IsShort held)
  parcel_short events (Report event count stamp context) fits = fits.1
  parcel_short events other fits = tt

  -- and so are all of a turn
  pub parcels_short : (events : ℕ) (items : List (Entry B)) → FitsTurn held events items → All (IsShort held) (all_parcels items)
  parcels_short events items fits = all_parcels_of (IsShort held) items
      (All-weaker (λ (e : Entry B). FitsAct held events e.act) (λ (e : Entry B). IfSome (parcel_of e.act) (IsShort held))
      (λ e. parcel_short events e.act) items fits.acts)

  -- short context data are no larger than 1,024 bytes
  pub short_fit : (parcels : List B) → All (IsShort held) parcels → All (FitsLargest held 1024) parcels
  short_fit parcels short = All-weaker (IsShort held) (FitsLargest held 1024) (λ parcel few. omega (arith, few)) parcels short
