-- The entries of a recorded turn, lent to a chain.
use Rattle.chain_plain.proofs.Names.{◌≡◌, ℕ, ◌*◌, ◌≤◌, List, length, length-map, map, ap, arith, All-map, act_by, entry_by, act_bytes, kept_bytes, common_steps, get_or-map, ◌↔◌, FitsAct, FitsTurn, bytes_in}
use Rattle.std.proofs.lemmas.List.Sums.{sum_by-le}
use Rattle.ids_types.specs.declared.entry.Act.{Act}
use Rattle.ids_types.specs.declared.entry.Entry.{Entry}

module _ {B : Type 0} (held : B → List ℕ) (events : ℕ) where
  -- an act fits where what it tells does
  pub act_fits : (act : Act B) → FitsAct held events act ↔ FitsAct (λ bytes. bytes) events (act_by held act)
  act_fits act = grind arith

  -- items fit where the entries do that they tell
  pub items_fit : (items : List (Entry B)) (entries : List (Entry (List ℕ))) → map (entry_by held) items ≡ entries
      → FitsTurn (λ bytes. bytes) events entries → FitsTurn held events items
  items_fit items entries same fits = record {
    few = grind (arith, common_steps, same, fits.few);
    acts = λ k d low.
        let its = fits.acts k (entry_by held d) (omega (arith, low, ap length same, length-map items (entry_by held))) in
        (act_fits _).1 (rw (← same, get_or-map (entry_by held) items k d (entry_by held d) low) at its);
  }

  -- what items tell can be taken where they can
  pub told_fits : (items : List (Entry B)) → FitsTurn held events items → FitsTurn (λ bytes. bytes) events (map (entry_by held) items)
  told_fits items fits = record {
    few = grind (arith, common_steps, fits.few);
    acts = All-map (λ e. FitsAct (λ bytes. bytes) events e.act) (entry_by held) items (λ k d low. (act_fits _).0 (fits.acts k d low));
  }

  act_short : (act : Act B) → FitsAct held events act → length (act_bytes (act_by held act)) ≤ 1024
  act_short act fits = grind (arith, fits)

  -- a turn has few bytes of context data
  pub bytes_few : (items : List (Entry B)) → FitsTurn held events items → bytes_in held items ≤ 1024 * 1024
  bytes_few items fits =
      let short = sum_by-le (λ (e : Entry B). length (kept_bytes (entry_by held e))) 1024 items (λ k d low. act_short _ (fits.acts k d low)) in
      omega (arith, fits.few, short)
