pub mod UriSpans
