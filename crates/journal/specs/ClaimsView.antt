-- What contracts see of `Claims`, and what holds of their text.
use Rattle.std.specs.Prelude.{◌≡◌, ℕ, List, [], Some, unwrap_or}
use Rattle.text_spec.specs.Contexts.{claims_in}
use Rattle.journal.specs.declared.claims.Claims.TheInside.{Inside}

-- the numbers of the text
abbrev pub lent_claims : Inside → List ℕ
lent_claims c = unwrap_or (claims_in c.text.now) []

-- the text is one of numbers
abbrev pub AreClaims : Inside → Type 0
AreClaims c = claims_in c.text.now ≡ Some (lent_claims c)
