-- Numbers that are less than one turn of a ring apart.
use Rattle.ring_core.proofs.Names.{◌≡◌, ℕ, suc, ◌+◌, ◌*◌, ◌/◌, ◌%◌, ◌<◌, ◌≤◌, mul-le-mul_right, suc-mul, div-add-mod', arith}

-- a greater quotient is at least one divisor more
further : (x y n : ℕ) → x < y → x * n + n ≤ y * n
further x y n h = let a : suc x * n ≤ y * n = mul-le-mul_right n h in omega (arith, suc-mul x n)

-- two numbers less than n apart, with one remainder, are one number
pub one_turn : (a b n : ℕ) → a ≤ b → b < a + n → a % n ≡ b % n → a ≡ b
one_turn a b n le lt e =
    grind (arith, div-add-mod' a n, div-add-mod' b n, further (a / n) (b / n) n, further (b / n) (a / n) n)

-- two tickets of one turn that stand at one position are one ticket
pub same_position : (from n t u : ℕ) → from ≤ t → t < from + n → from ≤ u → u < from + n → t % n ≡ u % n → t ≡ u
same_position from n t u ft tn fu un e = grind (arith, one_turn t u n, one_turn u t n)
