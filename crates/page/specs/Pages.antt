-- The plain page of a slot, and what a page says.
use Rattle.std.specs.Prelude.{ℕ, ◌+◌, ◌-◌, Bool, cond, List, [], ◌∷◌, ◌++◌, take, drop, replicate, Some, None, Ok, Err, Option, Result, ◌==◌}
use Rattle.std.specs.List.{list_all}
use Rattle.std.specs.Str.{bytes_eq}
use Rattle.record.specs.declared.kind.Record as kind
use Rattle.record.specs.declared.fault.FieldFault.{FieldFault}
use Rattle.page.specs.declared.fault.PageFault.{PageFault}
use Rattle.page.specs.declared.fault.PageFault.TheVariants.{Head, Record}
use Rattle.page.specs.declared.fault.SlotFault.{SlotFault}

-- the label, a mark, 0 for an empty slot and 1 for one that holds a record, the slot, and ten zeros
abbrev pub head : {R : Type 0} → kind.Ghosts R → ℕ → ℕ → List ℕ
head 𝓇 mark slot = 𝓇.LABEL ++ (mark ∷ slot ∷ replicate 10 0)

-- the plain page of `size` bytes for what a slot holds
abbrev pub plain : {R : Type 0} → kind.Ghosts R → ℕ → ℕ → Option R → List ℕ
plain 𝓇 size slot None = head 𝓇 0 slot ++ replicate (size - 16) 0
plain 𝓇 size slot (Some r) = head 𝓇 1 slot ++ (𝓇.written r ++ replicate (size - (16 + 𝓇.WIDTH)) 0)

abbrev pub zeros : List ℕ → Bool
zeros = list_all (λ b. b == 0)

abbrev pub taken : {R : Type 0} → Result R FieldFault → Result (Option R) PageFault
taken (Ok r) = Ok (Some r)
taken (Err e) = Err (Record e)

-- what a page says: a wrong head, or a byte that is not zero and must be, comes before a wrong record
abbrev pub opened : {R : Type 0} → kind.Ghosts R → ℕ → List ℕ → Result (Option R) PageFault
opened 𝓇 slot x =
    cond (bytes_eq (take 16 x) (head 𝓇 0 slot)) (cond (zeros (drop 16 x)) (Ok None) (Err Head))
    (cond (bytes_eq (take 16 x) (head 𝓇 1 slot))
    (cond (zeros (drop (16 + 𝓇.WIDTH) x)) (taken (𝓇.reading (take 𝓇.WIDTH (drop 16 x)))) (Err Head))
    (Err Head))

-- a fault with the slot added
abbrev pub slotted : {T : Type 0} → ℕ → Result T PageFault → Result T SlotFault
slotted slot (Ok x) = Ok x
slotted slot (Err e) = Err (record { slot = slot; fault = e })

abbrev pub opened_at : {R : Type 0} → kind.Ghosts R → ℕ → List ℕ → Result (Option R) SlotFault
opened_at 𝓇 slot x = slotted slot (opened 𝓇 slot x)

-- a fault's number, 6 or 7, and its values: the slot, and for a record's fault the field
abbrev pub fault_numbers : ℕ → PageFault → List ℕ
fault_numbers slot Head = 6 ∷ slot ∷ []
fault_numbers slot (Record e) = 7 ∷ slot ∷ e.field ∷ []

abbrev pub numbers : SlotFault → List ℕ
numbers e = fault_numbers e.slot e.fault
