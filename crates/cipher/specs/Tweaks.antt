-- The tweak that the mode gives a cipher.
use Rattle.std.specs.Prelude.{ℕ, ◌+◌, ◌*◌, ◌%◌, ◌^◌, cond, List, Some, None, codes, Option}
use Prim.Native.String.{String}
use Rattle.std.specs.Str.{bytes_eq}
use Rattle.std.specs.Option.{unwrap_or}

-- a domain's number, by its written name
abbrev pub number_of : List ℕ → Option ℕ
number_of name =
    cond (bytes_eq name (codes "t")) (Some 1)
    (cond (bytes_eq name (codes "s")) (Some 2)
    (cond (bytes_eq name (codes "c")) (Some 3)
    (cond (bytes_eq name (codes "b")) (Some 4)
    (cond (bytes_eq name (codes "xL")) (Some 5)
    (cond (bytes_eq name (codes "xR")) (Some 6)
    (cond (bytes_eq name (codes "yL")) (Some 7)
    (cond (bytes_eq name (codes "yR")) (Some 8)
    (cond (bytes_eq name (codes "p")) (Some 9)
    (cond (bytes_eq name (codes "ts")) (Some 10)
    (cond (bytes_eq name (codes "ss")) (Some 11)
    (cond (bytes_eq name (codes "cs")) (Some 12)
    (cond (bytes_eq name (codes "bs")) (Some 13)
    None))))))))))))

-- byte 0 has the domain's number, bytes 12 to 15 a 32-bit index, high byte first, and the others are zero;
-- no number of a domain, and no index of the mode, is too large for its place
abbrev pub head_of : ℕ → ℕ → ℕ
head_of domain index = domain % 2 ^ 8 * 2 ^ 120 + index % 2 ^ 32

-- a cipher's function, from a head, a body and a block, as one from a domain's name, an index, a body and a block
abbrev pub tweaked_by : (ℕ → ℕ → ℕ → ℕ) → List ℕ → ℕ → ℕ → ℕ → ℕ
tweaked_by f name index = f (head_of (unwrap_or (number_of name) 0) index)

abbrev pub tweaked : (ℕ → ℕ → ℕ → ℕ) → String → ℕ → ℕ → ℕ → ℕ
tweaked f name = tweaked_by f (codes name)
