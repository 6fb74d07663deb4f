-- Records as bytes: laid over an output, and those of several events' records.
use Prim.Native.Nat.{ℕ, ◌+◌, ◌*◌, ◌≤◌}
use mathlib.Core.Path.{◌≡◌, refl, sym, ap, ◌∙◌}
use mathlib.Core.List.{List, [], ◌∷◌, ◌++◌}
use native.Mathlib.Omega.{arith}
use lib.ListN.{length, take, drop}
use Rattle.laws.specs.Over.{overwrite}
use Rattle.laws.specs.Gather.{gather}
use Rattle.laws.proofs.Over.{over_none, length_over, over_over, over_part, take_over, drop_over}
use Rattle.laws.proofs.Gather.{gather_append, gather_none}
use Rattle.model.specs.Theory.{Record}
use Rattle.model.specs.Records.{Body}
use Rattle.model.specs.Dispatch.{record_bytes_of}
use Rattle.sessions.proofs.Room.{records_length}

-- an output with records laid over it
abbrev pub laid : List (Record Body ℕ) → List ℕ → List ℕ
laid rs out = overwrite out 0 (gather record_bytes_of rs)

pub none_laid : (out : List ℕ) → laid [] out ≡ out
none_laid out = ap (overwrite out 0) (gather_none record_bytes_of) ∙ over_none out 0

pub first_bytes : (out : List ℕ) (rs : List (Record Body ℕ)) → take (16 * length rs) (laid rs out) ≡ gather record_bytes_of rs
first_bytes out rs =
    let n : 16 * length rs ≡ 0 + length (gather record_bytes_of rs) = omega (arith, records_length rs) in
    rw n (take_over out 0 (gather record_bytes_of rs) (omega arith))

module _ (rs : List (Record Body ℕ)) (out : List ℕ) (room : 16 * length rs ≤ length out) where
  pub behind_laid : drop (16 * length rs) (laid rs out) ≡ drop (16 * length rs) out
  behind_laid =
      let n : 16 * length rs ≡ 0 + length (gather record_bytes_of rs) = omega (arith, records_length rs) in
      rw n (drop_over out 0 (gather record_bytes_of rs) (omega arith))

  pub laid_length : length (laid rs out) ≡ length out
  laid_length = length_over out 0 (gather record_bytes_of rs) (omega (arith, records_length rs))

  -- others laid over what is behind them
  pub laid_on : (ps : List (Record Body ℕ)) → take (16 * length rs) (laid rs out) ++ laid ps (drop (16 * length rs) (laid rs out)) ≡ laid (rs ++ ps) out
  laid_on ps =
      let n : 16 * length rs + 0 ≡ 0 + length (gather record_bytes_of rs) = omega (arith, records_length rs) in
      over_part (laid rs out) (16 * length rs) 0 (gather record_bytes_of ps) (omega (arith, laid_length))
      ∙ ap (λ (i : ℕ). overwrite (laid rs out) i (gather record_bytes_of ps)) n
      ∙ over_over out 0 (gather record_bytes_of rs) (gather record_bytes_of ps) (omega arith)
      ∙ ap (overwrite out 0) (sym (gather_append record_bytes_of rs ps))

pub gather_cells_lem : (cells : List (List (Record Body ℕ))) → gather record_bytes_of (gather (λ x. x) cells) ≡ gather (gather record_bytes_of) cells
unfolding gather
gather_cells_lem [] = refl
gather_cells_lem (c ∷ cs) = gather_append record_bytes_of c (gather (λ x. x) cs) ∙ ap (λ (l : List ℕ). gather record_bytes_of c ++ l) (gather_cells_lem cs)
