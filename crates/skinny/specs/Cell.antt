-- What the code does to one cell is what the definitions say: tests at all 256 cells.
use Rattle.std.specs.Prelude.{◌≡◌, ℕ, ◌-◌, ◌*◌, ◌/◌, ◌%◌, ◌^◌, ◌<◌, bit_and, bit_or, bit_xor, refl}
use Rattle.skinny.specs.Sbox.{sub, unsub}
use Rattle.skinny.specs.Skinny.{lfsr2, lfsr3}
use Rattle.skinny.specs.Running.{ordered, unordered}
use Rattle.block.proofs.Below.{same_below, less_below}

abbrev pub order_step : ℕ → ℕ
order_step x = bit_or (bit_or (bit_or (bit_or (bit_or (bit_and (x * 2 ^ 1 % 2 ^ 8) 0x10) (bit_and (x * 2 ^ 2 % 2 ^ 8) 0xc8)) (bit_and (x * 2 ^ 5 % 2 ^ 8) 0x20)) (bit_and (x / 2 ^ 6) 0x02)) (bit_and (x / 2 ^ 4) 0x04)) (bit_and (x / 2 ^ 2) 0x01)

pub order_is : (x : ℕ) → x < 256 → order_step x ≡ ordered x
unfolding ordered
order_is = same_below order_step ordered 256 refl

abbrev pub unorder_step : ℕ → ℕ
unorder_step x = bit_or (bit_or (bit_or (bit_or (bit_or (bit_and (x / 2 ^ 1) 0x08) (bit_and (x / 2 ^ 2) 0x32)) (bit_and (x / 2 ^ 5) 0x01)) (bit_and (x * 2 ^ 6 % 2 ^ 8) 0x80)) (bit_and (x * 2 ^ 4 % 2 ^ 8) 0x40)) (bit_and (x * 2 ^ 2 % 2 ^ 8) 0x04)

pub unorder_is : (x : ℕ) → x < 256 → unorder_step x ≡ unordered x
unfolding unordered
unorder_is = same_below unorder_step unordered 256 refl

-- ---- the S-box
abbrev pub sub_a : ℕ → ℕ
sub_a x = bit_xor (bit_xor x (bit_and (bit_and (x / 2 ^ 2) (x / 2 ^ 3)) 0x11)) (bit_and (bit_and (x * 2 ^ 5 % 2 ^ 8) (x * 2 ^ 4 % 2 ^ 8)) 0x40)

abbrev pub sub_b : ℕ → ℕ
sub_b a = bit_xor (bit_xor a (bit_and (bit_and (a * 2 ^ 5 % 2 ^ 8) (a * 2 ^ 1 % 2 ^ 8)) 0x20)) (bit_and (bit_and (a / 2 ^ 2) (a * 2 ^ 1 % 2 ^ 8)) 0x02)

abbrev pub sub_last : ℕ → ℕ
sub_last b = 2 ^ 8 - 1 - bit_xor (bit_xor (bit_xor (ordered b) (bit_and (bit_and b (b / 2 ^ 1)) 0x10)) (bit_and (bit_and (b / 2 ^ 4) (b / 2 ^ 5)) 0x02)) (bit_and (bit_and (bit_xor (b / 2 ^ 7) (bit_and (b / 2 ^ 5) (b / 2 ^ 6))) (b / 2 ^ 1)) 0x01)

abbrev pub sub_step : ℕ → ℕ
sub_step x = sub_last (sub_b (sub_a (2 ^ 8 - 1 - x)))

pub sub_is : (x : ℕ) → x < 256 → sub_step x ≡ sub x
unfolding sub ordered
sub_is = same_below sub_step sub 256 refl

-- ---- and back
abbrev pub unsub_a : ℕ → ℕ
unsub_a x = bit_xor (bit_xor x (bit_and (bit_and (x / 2 ^ 1) (x / 2 ^ 3)) 0x01)) (bit_and (bit_and (x / 2 ^ 2) (x / 2 ^ 3)) 0x10)

abbrev pub unsub_b : ℕ → ℕ
unsub_b x = bit_xor (bit_xor (unsub_a x) (bit_and (bit_and (x / 2 ^ 6) (x / 2 ^ 1)) 0x02)) (bit_and (bit_and (x * 2 ^ 2 % 2 ^ 8) (x * 2 ^ 1 % 2 ^ 8)) 0x80)

-- from x and its unsub_a
abbrev pub unsub_x6 : ℕ → ℕ → ℕ
unsub_x6 x a = bit_and (bit_xor (x * 2 ^ 1 % 2 ^ 8) (bit_and a (x / 2 ^ 1))) (a * 2 ^ 4 % 2 ^ 8)

-- and its unsub_b and unsub_x6
abbrev pub unsub_last : ℕ → ℕ → ℕ → ℕ → ℕ
unsub_last x a b y = 2 ^ 8 - 1 - bit_xor (bit_xor (bit_xor (bit_xor (unordered b) (bit_and (bit_and (a / 2 ^ 3) (a / 2 ^ 4)) 0x02)) (bit_and (bit_and (a / 2 ^ 4) a) 0x01)) (bit_and y 0x10 * 2 ^ 2 % 2 ^ 8)) (bit_and (bit_and (bit_xor (x * 2 ^ 2 % 2 ^ 8) y) (b * 2 ^ 3 % 2 ^ 8)) 0x10)

abbrev pub unsub_flipped : ℕ → ℕ
unsub_flipped x = unsub_last x (unsub_a x) (unsub_b x) (unsub_x6 x (unsub_a x))

abbrev pub unsub_step : ℕ → ℕ
unsub_step x = unsub_flipped (2 ^ 8 - 1 - x)

pub unsub_is : (x : ℕ) → x < 256 → unsub_step x ≡ unsub x
unfolding unsub unordered
unsub_is = same_below unsub_step unsub 256 refl

pub unsub-sub : (x : ℕ) → x < 256 → unsub (sub x) ≡ x
unfolding sub unsub
unsub-sub = same_below (λ x. unsub (sub x)) (λ x. x) 256 refl

pub sub-unsub : (x : ℕ) → x < 256 → sub (unsub x) ≡ x
unfolding sub unsub
sub-unsub = same_below (λ x. sub (unsub x)) (λ x. x) 256 refl

-- ---- the schedule
abbrev pub lfsr2_step : ℕ → ℕ
lfsr2_step x = bit_or (x * 2 ^ 1 % 2 ^ 8) (bit_and (bit_xor (x / 2 ^ 7) (x / 2 ^ 5)) 1)

pub lfsr2_is : (x : ℕ) → x < 256 → lfsr2_step x ≡ lfsr2 x
unfolding lfsr2
lfsr2_is = same_below lfsr2_step lfsr2 256 refl

abbrev pub lfsr3_step : ℕ → ℕ
lfsr3_step x = bit_or (x / 2 ^ 1) (bit_xor x (x / 2 ^ 6) * 2 ^ 7 % 2 ^ 8)

pub lfsr3_is : (x : ℕ) → x < 256 → lfsr3_step x ≡ lfsr3 x
unfolding lfsr3
lfsr3_is = same_below lfsr3_step lfsr3 256 refl

-- ---- cells stay cells
pub sub_is_byte : (x : ℕ) → x < 256 → sub x < 256
unfolding sub
sub_is_byte = less_below sub (λ _. 256) 256 refl

pub unsub_byte : (x : ℕ) → x < 256 → unsub x < 256
unfolding unsub
unsub_byte = less_below unsub (λ _. 256) 256 refl

pub lfsr2_byte : (x : ℕ) → x < 256 → lfsr2 x < 256
unfolding lfsr2
lfsr2_byte = less_below lfsr2 (λ _. 256) 256 refl

pub lfsr3_byte : (x : ℕ) → x < 256 → lfsr3 x < 256
unfolding lfsr3
lfsr3_byte = less_below lfsr3 (λ _. 256) 256 refl
