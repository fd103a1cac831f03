-- Of which ring an end is.
use Rattle.rtrb.specs.declared.producer.Producer.{Producer}
use Rattle.rtrb.specs.declared.consumer.Consumer.{Consumer}
use Rattle.odb_hub.specs.Rings.{Name}

module _ {T A P : Type 0} where
  abbrev pub producer_name : Producer T A P → Name
  producer_name p = (p.end.words, (p.end.slots, p.end.names))

  abbrev pub consumer_name : Consumer T A P → Name
  consumer_name c = (c.end.words, (c.end.slots, c.end.names))
