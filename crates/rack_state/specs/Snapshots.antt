-- All that a rack is at one time: its sizes, its slots, its graph, and what every area holds. Assumes nothing.
use Rattle.std.specs.Prelude.{ℕ, List, vec_items, vec_len, Option}
use Rattle.model.specs.Stores as model
use Rattle.slots.specs.Areas.{SlotState, state_of}
use Rattle.streams.specs.declared.record.Tapes.{Tapes}
use Rattle.results.specs.declared.key.ResultKey.{ResultKey}
use Rattle.rack_state.specs.declared.areas.Areas.{Areas}
use Rattle.rack_state.specs.declared.areas.RackSizes.{RackSizes}
use Rattle.rack_state.specs.declared.state.Loaded.{Loaded}
use Rattle.rack_state.specs.declared.state.RackState.{RackState}

-- `graph` is the whole area of graph bytes, `commands` the number of commands that its graph has; the first `count` keys and sums are in use.
pub record Snapshot (P : Type 0) : Type 0 where
  pub sizes : model.Sizes
  pub slots : SlotState P
  pub graph : List ℕ
  pub commands : ℕ
  pub loaded : Option Loaded
  pub tapes : Tapes
  pub words : List ℕ
  pub values : List P
  pub keys : List ResultKey
  pub sums : List P
  pub count : ℕ

abbrev pub view : {V S P : Type 0} → RackState V S P → Snapshot P
view r =
    record {
      sizes =
          record {
            positions = r.tensors.room.positions;
            level_words = r.tensors.room.level_words;
            stream_words = r.streams.word_room;
            stream_values = r.streams.value_room;
            places = r.results.places;
          };
      slots = state_of r.tensors;
      graph = r.graph.bytes;
      commands = r.graph.commands;
      loaded = r.loaded;
      tapes = r.streams.tapes;
      words = vec_items r.streams.words;
      values = vec_items r.streams.values;
      keys = vec_items r.results.keys;
      sums = vec_items r.results.sums;
      count = r.results.count;
    }

-- the sizes that were given, and how long the areas are
abbrev pub sizes_given : RackSizes → model.Sizes
sizes_given z =
    record {
      positions = z.positions;
      level_words = z.level_words;
      stream_words = z.stream_words;
      stream_values = z.stream_values;
      places = z.places;
    }

abbrev pub lengths : {P : Type 0} → Areas P → model.AreaLengths
lengths a =
    record {
      slot_values = vec_len a.slot_values;
      level_words = vec_len a.level_words;
      stream_words = vec_len a.stream_words;
      stream_values = vec_len a.stream_values;
      keys = vec_len a.keys;
      key_values = vec_len a.key_values;
    }
