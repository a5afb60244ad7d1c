use Rattle.std.proofs.Common.{[], ◌∷◌, ◌∙◌, arith}
use lib.Bits.{bit_xor, xor_lt}
use Rattle.aes.specs.Field.{sbox}
use Rattle.aes.proofs.OnWords.{byte_at, word_bytes, next_code}
use Rattle.aes.proofs.schedule.next_key.Goals as goal

pub returns : goal.returns
returns c =
    let k = c.args.k in
    let last = c.to_be_bytes-last in
    next_code c.args.constant k.a k.b k.c k.d c.from_be_bytes-turned.result
    (word_bytes c.from_be_bytes-turned.result _ _ _ _ (xor_lt 8 _ _ c.sub_byte.type_inv (omega arith)) c.sub_byte-2.type_inv c.sub_byte-3.type_inv c.sub_byte-4.type_inv c.from_be_bytes-turned.ensures
    ∙ (λ t.
    bit_xor (byte_at sbox 1 k.d last.result c.sub_byte.ensures last.ensures t) c.args.constant
    ∷ byte_at sbox 2 k.d last.result c.sub_byte-2.ensures last.ensures t
    ∷ byte_at sbox 3 k.d last.result c.sub_byte-3.ensures last.ensures t
    ∷ byte_at sbox 0 k.d last.result c.sub_byte-4.ensures last.ensures t
    ∷ []))
