use Rattle.std.proofs.Common.{ℕ, List, map, ap, ◌∙◌}
use Rattle.block.specs.Blocks.{bytes}
use Rattle.block.proofs.OnBytes.{length-bytes, under_bytes}
use Rattle.aes.specs.Field.{sbox, inv_sbox}
use Rattle.aes.specs.Aes.{on_column}
use Rattle.aes.proofs.OnField.{sbox_byte, sbox_back}
use Rattle.aes.proofs.OnWords.{be_bytes_state}
use Rattle.aes.proofs.Inverse.{map_undone}
use Rattle.aes.proofs.schedule.inv_mix.Goals as goal

pub returns : goal.returns
returns c =
    let w = c.args.w in
    c.mixed_column.ensures
    ∙ ap (λ (ws : List ℕ). on_column 14 11 13 9 (map inv_sbox ws))
    (c.to_be_bytes-2.ensures ∙ be_bytes_state _ ∙ c.sub_column.ensures ∙ ap (map sbox) (c.to_be_bytes.ensures ∙ be_bytes_state w))
    ∙ ap (on_column 14 11 13 9) (map_undone sbox inv_sbox sbox_byte sbox_back 4 (bytes 4 w) (length-bytes 4 w, under_bytes 4 w)).1
