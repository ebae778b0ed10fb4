-- How a registry's fields make up its contents.
use Rattle.cordz_core.specs.declared.registry.Registry.TheInside.{Inside}
use Rattle.cordz_core.specs.Contents.{Contents, IsSound}

abbrev pub contents_of : Inside → Contents
contents_of a = record {
  walkers = a.walkers;
  clock = a.clock.ticks;
  stamps = a.stamps;
  head = a.head;
  entries = a.entries;
  newer = a.newer;
  births = a.births;
  queue = a.queue.items;
}

abbrev pub HasRules : Inside → Type 0
HasRules a = IsSound (contents_of a)
