-- What is kept under the keys of methods, rows and noises, as it is held.
use Rattle.std.proofs.Common.{◌≡◌, ◌∙◌, ℕ, ◌+◌, ◌<◌, ◌≤◌, Bool, true, false, List, [], ◌∷◌, ◌++◌, length, get_or}
use Rattle.std.proofs.Common.{take, map}
use Rattle.std.proofs.Common.{Option, Some, None, option_map, find, refl, sym, ap, subst, arith}
use Rattle.std.specs.Prelude.{All, is_some, sum_by}
use Rattle.std.specs.List.{list_any}
use Rattle.std.specs.declared.alloc.Global.{Global}
use Rattle.std.specs.declared.rc.Rc.{Rc}
use Rattle.cds_book.specs.Tables.{TablesState}
use Rattle.cds_graph.specs.declared.found.RowNode.{RowNode}
use Rattle.cds_graph.specs.declared.key.RowKey.{RowKey}
use Rattle.cds_graph.specs.declared.method.MethodKey.{MethodKey}
use Rattle.cds_graph.specs.declared.method.MethodNode.{MethodNode}
use Rattle.cds_graph.specs.declared.noises.NoiseNode.{NoiseNode}
use Rattle.cds_graph.specs.Building.{AreMethods, AreRows, AreNoises, MethodsOf, RowsOf, NoisesOf, HasMethods, HasRows}
use Rattle.cds_graph.specs.Building.{HasNoises, KnowsMethod, KnowsRow, KnowsNoise, keys_of_rows, keys_of_noises}
use Rattle.cds_graph.specs.Building.{new_row_steps, new_noise_steps}
use Rattle.cds_graph.specs.HeldGraph.{method_node_key, method_node_shown, methods_shown, row_node_shown, rows_shown}
use Rattle.cds_graph.specs.HeldGraph.{noise_key_shown, noise_node_shown, noises_shown}
use Rattle.cds_graph.specs.Kept.{KeptMethod, KeptRow, KeptNoise, method_under, row_under, noise_under}
use Rattle.cds_graph.specs.Keys.{NoiseKey, once, new_keys, same_method_key, same_row_key, same_noise_key}
use Rattle.cds_graph.specs.Keys.{method_keys, row_keys, noise_keys, row_steps, noise_steps}
use Rattle.cds_graph.proofs.KeyLaws.{same_row_key-Decides, same_method_key-Decides, same_noise_key-Decides}
use Rattle.cds_graph.proofs.OnceLaws.{add-known, key-new, add-new, right-is, kept-is, kept-among, none-under}
use Rattle.cds_graph.proofs.OnceLaws.{cost-one, cost-new, cost-take}

-- how methods are held
abbrev HeldMethod : Type 0
HeldMethod = Rc MethodNode Global

-- how rows are held
abbrev HeldRow : Type 0
HeldRow = Rc RowNode Global

-- the first method that is held under a key
abbrev method_found : List HeldMethod → MethodKey → Option HeldMethod
method_found nodes k = find (λ (n : HeldMethod). same_method_key (method_node_key n.value) k) nodes

-- a method whose key is known adds nothing
pub method-known : (t : TablesState) (nodes : List HeldMethod) (keys : List MethodKey) (i : ℕ) (k : MethodKey) →
    i < length keys → k ≡ get_or keys i k → MethodsOf t (take i keys) (methods_shown nodes) →
    is_some (method_found nodes k) ≡ true → once same_method_key (take (i + 1) keys) ≡ once same_method_key (take i
    keys)
unfolding method_under
method-known t nodes keys i k within is before found =
    add-known same_method_key same_method_key-Decides (λ (n : HeldMethod). method_node_shown n.value)
    (λ (n : HeldMethod). method_node_key n.value) (method_under t) (λ (x : KeptMethod). x.key) (λ n. refl) (λ k. refl)
    nodes keys i k within is before found

-- and the method is kept behind the others
pub method-added : (t : TablesState) (nodes : List HeldMethod) (node : HeldMethod) (keys : List MethodKey) (i : ℕ)
    (k : MethodKey) → i < length keys → k ≡ get_or keys i k → MethodsOf t (take i keys) (methods_shown nodes) →
    is_some (method_found nodes k) ≡ false → method_node_shown node.value ≡ method_under t k →
    MethodsOf t (take (i + 1) keys) (methods_shown (nodes ++ node ∷ []))
unfolding method_under
method-added t nodes node keys i k within is before none one =
    add-new same_method_key same_method_key-Decides (λ (n : HeldMethod). method_node_shown n.value)
    (λ (n : HeldMethod). method_node_key n.value) (method_under t) (λ (x : KeptMethod). x.key) (λ n. refl) (λ k. refl)
    nodes node keys i k within is before none one

-- a method that was kept is what its key names
pub method-kept : (t : TablesState) (nodes : List HeldMethod) (k : MethodKey) (n : HeldMethod) →
    AreMethods t (methods_shown nodes) → method_found nodes k ≡ Some n → method_node_shown n.value ≡ method_under t k
unfolding method_under
method-kept t nodes k n right is =
    right-is same_method_key same_method_key-Decides (λ (n : HeldMethod). method_node_shown n.value)
    (λ (n : HeldMethod). method_node_key n.value) (method_under t) (λ (x : KeptMethod). x.key) (λ n. refl) (λ k. refl)
    nodes k n right is

-- a method of the tables is what its key names
pub method-is : (t : TablesState) (nodes : List HeldMethod) (k : MethodKey) (n : HeldMethod) →
    HasMethods t (methods_shown nodes) → method_found nodes k ≡ Some n → method_node_shown n.value ≡ method_under t k
unfolding method_under
method-is t nodes k n has is =
    kept-is same_method_key same_method_key-Decides (λ (n : HeldMethod). method_node_shown n.value)
    (λ (n : HeldMethod). method_node_key n.value) (method_under t) (λ (x : KeptMethod). x.key) (λ n. refl) (λ k. refl)
    nodes (method_keys t) k n has is

-- and it is there
pub method-there : (t : TablesState) (nodes : List HeldMethod) (k : MethodKey) → HasMethods t (methods_shown nodes) →
    KnowsMethod t k → is_some (method_found nodes k) ≡ true
unfolding method_under
method-there t nodes k has known =
    sym (kept-among same_method_key same_method_key-Decides (λ (n : HeldMethod). method_node_shown n.value)
    (λ (n : HeldMethod). method_node_key n.value) (method_under t) (λ (x : KeptMethod). x.key) (λ n. refl) (λ k. refl)
    nodes (method_keys t) k has) ∙ known

-- the first row that is held under a key
abbrev row_found : List HeldRow → RowKey → Option HeldRow
row_found nodes k = find (λ (n : HeldRow). same_row_key (n.value.key) k) nodes

-- a row whose key is known adds nothing
pub row-known : (t : TablesState) (nodes : List HeldRow) (keys : List RowKey) (i : ℕ) (k : RowKey) →
    i < length keys → k ≡ get_or keys i k → RowsOf t (take i keys) (rows_shown nodes) →
    is_some (row_found nodes k) ≡ true → once same_row_key (take (i + 1) keys) ≡ once same_row_key (take i keys)
unfolding row_under
row-known t nodes keys i k within is before found =
    add-known same_row_key same_row_key-Decides (λ (n : HeldRow). row_node_shown n.value)
    (λ (n : HeldRow). n.value.key) (row_under t) (λ (x : KeptRow). x.key) (λ n. refl) (λ k. refl)
    nodes keys i k within is before found

-- the key of a row that isn't known is new
pub row-unknown : (t : TablesState) (nodes : List HeldRow) (keys : List RowKey) (i : ℕ) (k : RowKey) →
    RowsOf t (take i keys) (rows_shown nodes) → is_some (row_found nodes k) ≡ false →
    list_any (same_row_key k) (once same_row_key (take i keys)) ≡ false
unfolding row_under
row-unknown t nodes keys i k before none =
    key-new same_row_key same_row_key-Decides (λ (n : HeldRow). row_node_shown n.value)
    (λ (n : HeldRow). n.value.key) (row_under t) (λ (x : KeptRow). x.key) (λ n. refl) (λ k. refl)
    nodes keys i k before none

-- and the row is kept behind the others
pub row-added : (t : TablesState) (nodes : List HeldRow) (node : HeldRow) (keys : List RowKey) (i : ℕ)
    (k : RowKey) → i < length keys → k ≡ get_or keys i k → RowsOf t (take i keys) (rows_shown nodes) →
    is_some (row_found nodes k) ≡ false → row_node_shown node.value ≡ row_under t k →
    RowsOf t (take (i + 1) keys) (rows_shown (nodes ++ node ∷ []))
unfolding row_under
row-added t nodes node keys i k within is before none one =
    add-new same_row_key same_row_key-Decides (λ (n : HeldRow). row_node_shown n.value)
    (λ (n : HeldRow). n.value.key) (row_under t) (λ (x : KeptRow). x.key) (λ n. refl) (λ k. refl)
    nodes node keys i k within is before none one

-- a row that was kept is what its key names
pub row-kept : (t : TablesState) (nodes : List HeldRow) (k : RowKey) (n : HeldRow) →
    AreRows t (rows_shown nodes) → row_found nodes k ≡ Some n → row_node_shown n.value ≡ row_under t k
unfolding row_under
row-kept t nodes k n right is =
    right-is same_row_key same_row_key-Decides (λ (n : HeldRow). row_node_shown n.value)
    (λ (n : HeldRow). n.value.key) (row_under t) (λ (x : KeptRow). x.key) (λ n. refl) (λ k. refl)
    nodes k n right is

-- a row of the tables is what its key names
pub row-is : (t : TablesState) (nodes : List HeldRow) (k : RowKey) (n : HeldRow) →
    HasRows t (rows_shown nodes) → row_found nodes k ≡ Some n → row_node_shown n.value ≡ row_under t k
unfolding row_under
row-is t nodes k n has is =
    kept-is same_row_key same_row_key-Decides (λ (n : HeldRow). row_node_shown n.value)
    (λ (n : HeldRow). n.value.key) (row_under t) (λ (x : KeptRow). x.key) (λ n. refl) (λ k. refl)
    nodes (row_keys t) k n has is

-- and it is there
pub row-there : (t : TablesState) (nodes : List HeldRow) (k : RowKey) → HasRows t (rows_shown nodes) →
    KnowsRow t k → is_some (row_found nodes k) ≡ true
unfolding row_under
row-there t nodes k has known =
    sym (kept-among same_row_key same_row_key-Decides (λ (n : HeldRow). row_node_shown n.value)
    (λ (n : HeldRow). n.value.key) (row_under t) (λ (x : KeptRow). x.key) (λ n. refl) (λ k. refl)
    nodes (row_keys t) k has) ∙ known

-- the steps of a row that isn't kept
pub row-steps_one : (t : TablesState) (nodes : List HeldRow) (k : RowKey) → row_found nodes k ≡ None →
    new_row_steps t (rows_shown nodes) (k ∷ []) ≡ row_steps t k
unfolding row_under
row-steps_one t nodes k none =
    cost-one same_row_key same_row_key-Decides (row_steps t) (keys_of_rows (rows_shown nodes)) k
    (none-under same_row_key same_row_key-Decides (λ (n : HeldRow). row_node_shown n.value)
    (λ (n : HeldRow). n.value.key) (row_under t) (λ (x : KeptRow). x.key) (λ n. refl) (λ k. refl)
    nodes k none)

-- the steps of the keys up to and with a new one
pub row-steps_more : (t : TablesState) (kept : List KeptRow) (keys : List RowKey) (i : ℕ) (k : RowKey) →
    i < length keys → k ≡ get_or keys i k → list_any (same_row_key k) (once same_row_key (take i keys)) ≡ false →
    new_row_steps t kept (once same_row_key (take (i + 1) keys))
    ≡ new_row_steps t kept (once same_row_key (take i keys)) + new_row_steps t kept (k ∷ [])
row-steps_more t kept keys i k within is new =
    cost-new same_row_key same_row_key-Decides (row_steps t) (keys_of_rows kept) keys i k within is new

-- the steps of keys up to a place
pub row-steps_take : (t : TablesState) (kept : List KeptRow) (keys : List RowKey) (i : ℕ) →
    new_row_steps t kept (once same_row_key (take i keys)) ≤ new_row_steps t kept (once same_row_key keys)
row-steps_take t kept keys i = cost-take same_row_key same_row_key-Decides (row_steps t) (keys_of_rows kept) keys i

-- the first noise that is held under a key
abbrev noise_found : List NoiseNode → NoiseKey → Option NoiseNode
noise_found nodes k = find (λ (n : NoiseNode). same_noise_key (noise_key_shown n.key) k) nodes

-- a noise whose key is known adds nothing
pub noise-known : (t : TablesState) (nodes : List NoiseNode) (keys : List NoiseKey) (i : ℕ) (k : NoiseKey) →
    i < length keys → k ≡ get_or keys i k → NoisesOf t (take i keys) (noises_shown nodes) →
    is_some (noise_found nodes k) ≡ true → once same_noise_key (take (i + 1) keys) ≡ once same_noise_key (take i keys)
unfolding noise_under
noise-known t nodes keys i k within is before found =
    add-known same_noise_key same_noise_key-Decides (λ (n : NoiseNode). noise_node_shown n)
    (λ (n : NoiseNode). noise_key_shown n.key) (noise_under t) (λ (x : KeptNoise). x.key) (λ n. refl) (λ k. refl)
    nodes keys i k within is before found

-- the key of a noise that isn't known is new
pub noise-unknown : (t : TablesState) (nodes : List NoiseNode) (keys : List NoiseKey) (i : ℕ) (k : NoiseKey) →
    NoisesOf t (take i keys) (noises_shown nodes) → is_some (noise_found nodes k) ≡ false →
    list_any (same_noise_key k) (once same_noise_key (take i keys)) ≡ false
unfolding noise_under
noise-unknown t nodes keys i k before none =
    key-new same_noise_key same_noise_key-Decides (λ (n : NoiseNode). noise_node_shown n)
    (λ (n : NoiseNode). noise_key_shown n.key) (noise_under t) (λ (x : KeptNoise). x.key) (λ n. refl) (λ k. refl)
    nodes keys i k before none

-- and the noise is kept behind the others
pub noise-added : (t : TablesState) (nodes : List NoiseNode) (node : NoiseNode) (keys : List NoiseKey) (i : ℕ)
    (k : NoiseKey) → i < length keys → k ≡ get_or keys i k → NoisesOf t (take i keys) (noises_shown nodes) →
    is_some (noise_found nodes k) ≡ false → noise_node_shown node ≡ noise_under t k →
    NoisesOf t (take (i + 1) keys) (noises_shown (nodes ++ node ∷ []))
unfolding noise_under
noise-added t nodes node keys i k within is before none one =
    add-new same_noise_key same_noise_key-Decides (λ (n : NoiseNode). noise_node_shown n)
    (λ (n : NoiseNode). noise_key_shown n.key) (noise_under t) (λ (x : KeptNoise). x.key) (λ n. refl) (λ k. refl)
    nodes node keys i k within is before none one

-- a noise that was kept is what its key names
pub noise-kept : (t : TablesState) (nodes : List NoiseNode) (k : NoiseKey) (n : NoiseNode) →
    AreNoises t (noises_shown nodes) → noise_found nodes k ≡ Some n → noise_node_shown n ≡ noise_under t k
unfolding noise_under
noise-kept t nodes k n right is =
    right-is same_noise_key same_noise_key-Decides (λ (n : NoiseNode). noise_node_shown n)
    (λ (n : NoiseNode). noise_key_shown n.key) (noise_under t) (λ (x : KeptNoise). x.key) (λ n. refl) (λ k. refl)
    nodes k n right is

-- a noise of the tables is what its key names
pub noise-is : (t : TablesState) (nodes : List NoiseNode) (k : NoiseKey) (n : NoiseNode) →
    HasNoises t (noises_shown nodes) → noise_found nodes k ≡ Some n → noise_node_shown n ≡ noise_under t k
unfolding noise_under
noise-is t nodes k n has is =
    kept-is same_noise_key same_noise_key-Decides (λ (n : NoiseNode). noise_node_shown n)
    (λ (n : NoiseNode). noise_key_shown n.key) (noise_under t) (λ (x : KeptNoise). x.key) (λ n. refl) (λ k. refl)
    nodes (noise_keys t) k n has is

-- and it is there
pub noise-there : (t : TablesState) (nodes : List NoiseNode) (k : NoiseKey) → HasNoises t (noises_shown nodes) →
    KnowsNoise t k → is_some (noise_found nodes k) ≡ true
unfolding noise_under
noise-there t nodes k has known =
    sym (kept-among same_noise_key same_noise_key-Decides (λ (n : NoiseNode). noise_node_shown n)
    (λ (n : NoiseNode). noise_key_shown n.key) (noise_under t) (λ (x : KeptNoise). x.key) (λ n. refl) (λ k. refl)
    nodes (noise_keys t) k has) ∙ known

-- the steps of a noise that isn't kept
pub noise-steps_one : (t : TablesState) (nodes : List NoiseNode) (k : NoiseKey) → noise_found nodes k ≡ None →
    new_noise_steps t (noises_shown nodes) (k ∷ []) ≡ noise_steps t k
unfolding noise_under
noise-steps_one t nodes k none =
    cost-one same_noise_key same_noise_key-Decides (noise_steps t) (keys_of_noises (noises_shown nodes)) k
    (none-under same_noise_key same_noise_key-Decides (λ (n : NoiseNode). noise_node_shown n)
    (λ (n : NoiseNode). noise_key_shown n.key) (noise_under t) (λ (x : KeptNoise). x.key) (λ n. refl) (λ k. refl)
    nodes k none)

-- the steps of the keys up to and with a new one
pub noise-steps_more : (t : TablesState) (kept : List KeptNoise) (keys : List NoiseKey) (i : ℕ) (k : NoiseKey) →
    i < length keys → k ≡ get_or keys i k → list_any (same_noise_key k) (once same_noise_key (take i keys)) ≡ false →
    new_noise_steps t kept (once same_noise_key (take (i + 1) keys))
    ≡ new_noise_steps t kept (once same_noise_key (take i keys)) + new_noise_steps t kept (k ∷ [])
noise-steps_more t kept keys i k within is new =
    cost-new same_noise_key same_noise_key-Decides (noise_steps t) (keys_of_noises kept) keys i k within is new

-- the steps of keys up to a place
pub noise-steps_take : (t : TablesState) (kept : List KeptNoise) (keys : List NoiseKey) (i : ℕ) →
    new_noise_steps t kept (once same_noise_key (take i keys)) ≤ new_noise_steps t kept (once same_noise_key keys)
noise-steps_take t kept keys i = cost-take same_noise_key same_noise_key-Decides (noise_steps t) (keys_of_noises
    kept) keys i
